-- `is_digit` meets its contract. Assumes nothing.
use mathlib.Core.Path.{◌∙◌}
use Rattle.text_hex.proofs.Digits.{hexdigit-is}
use Rattle.text_hex.proofs.is_digit.Goals as goal

pub returns : goal.returns
returns c = c.is_ascii_hexdigit.ensures.value ∙ hexdigit-is c.args.b
