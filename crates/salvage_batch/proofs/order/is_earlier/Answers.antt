-- `order::is_earlier` meets its contract, by the order of addresses in words. Assumes nothing.
use mathlib.Core.Path.{◌≡◌}
use native.Mathlib.Omega.{arith}
use lib.Dec.{ltb}
use Rattle.std.proofs.lemmas.Grind.{common_steps}
use Rattle.salvage_batch.proofs.Orders.{earlier-words}
use Rattle.salvage_batch.proofs.order.is_earlier.Goals as goal

pub returns : goal.returns
returns c = let x = c.args.x in
    let y = c.args.y in
    let short : x.hi ≡ y.hi → x.lo ≡ y.lo → c.lt.result ≡ ltb x.len y.len = λ e g. grind (arith, common_steps, e, g) in
    let low : x.hi ≡ y.hi → (x.lo ≡ y.lo → ⊥) → c.lt.result ≡ ltb x.lo y.lo = λ e n. grind (arith, common_steps, e, n) in
    let high : (x.hi ≡ y.hi → ⊥) → c.lt.result ≡ ltb x.hi y.hi = λ n. grind (arith, common_steps, n) in
    earlier-words c.requires.1 c.requires.2 (omega arith) (omega arith) short low high
