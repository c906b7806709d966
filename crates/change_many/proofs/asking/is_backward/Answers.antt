-- `asking::is_backward` meets its contract: by the high words, and where they are equal by the low ones. Assumes nothing.
use mathlib.Core.Path.{◌≡◌}
use native.Mathlib.Omega.{arith}
use lib.Dec.{ltb}
use Rattle.std.proofs.lemmas.Grind.{common_steps}
use Rattle.change_many.proofs.Asked.{smaller-words}
use Rattle.change_many.proofs.asking.is_backward.Goals as goal

pub returns : goal.returns
returns c = let s = c.args.s in
    let low : s.first.hi ≡ s.last.hi → c.lt.result ≡ ltb s.last.lo s.first.lo = λ e. grind (arith, common_steps, e) in
    let high : (s.first.hi ≡ s.last.hi → ⊥) → c.lt.result ≡ ltb s.last.hi s.first.hi = λ n. grind (arith, common_steps, n) in
    smaller-words _ _ (omega arith) (omega arith) low high
