-- `ipv4::digits` meets its contract. Assumes nothing.
use lib.ListN.{length}
use mathlib.Core.Path.{ap, ◌∙◌}
use Rattle.text_decimal.specs.Decimal.{digits_of}
use Rattle.text.proofs.ipv4.digits.Goals as goal

pub returns : goal.returns
returns c = record { value = c.length.ensures.value ∙ ap (λ x. length (digits_of x)) c.octet.ensures; upper_bound = c.length.ensures.upper_bound }
