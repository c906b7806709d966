-- `asks_of` meets its contract. Assumes nothing.
use mathlib.Core.Path.{ap, ◌∙◌}
use native.Mathlib.Omega.{arith}
use Rattle.calls_kinds.specs.Kinds.{Asked, asks_by}
use Rattle.calls_kinds.proofs.Judged.{asks_by-most}
use Rattle.calls_kinds.proofs.asks_of.Goals as goal

pub returns : goal.returns
returns c = let b = c.args.c.b in
    record { value = c.asks_by.ensures ∙ ap (λ x. asks_by x b) c.kind_of.ensures; bytes_bound = omega (arith, ap (λ (x : Asked). x.bytes) c.asks_by.ensures, asks_by-most c.kind_of.result b) }
