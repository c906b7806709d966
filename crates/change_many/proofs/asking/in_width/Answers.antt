-- `asking::in_width` meets its contract, by the words of each family. Assumes nothing.
use mathlib.Core.Bool.{false}
use mathlib.Core.Path.{◌≡◌}
use native.Mathlib.Omega.{arith}
use lib.Dec.{ltb}
use Rattle.std.proofs.lemmas.Grind.{common_steps}
use Rattle.change_many.proofs.Asked.{width-more, width-words}
use Rattle.change_many.proofs.asking.in_width.Goals as goal

pub returns-then-family-ne-IPV4 : goal.returns-then-family-ne-IPV4
returns-then-family-ne-IPV4 c = width-more _ _ c.if-family-ne-IPV4.true (omega arith) (omega arith)

pub returns : goal.returns
returns c = let a = c.args.a in
    let low : a.hi ≡ 0 → c.lt.result ≡ ltb a.lo 0x100000000 = λ e. grind (arith, common_steps, e) in
    let high : (a.hi ≡ 0 → ⊥) → c.lt.result ≡ false = λ n. grind (arith, common_steps, n) in
    width-words _ _ c.if-family-ne-IPV4.false low high
