-- `tails::store_words` meets its contract. The loop's invariant: the numbers from i on complete it. Assumes nothing.
use mathlib.Core.List.{[], ◌∷◌}
use mathlib.Core.Path.{◌≡◌}
use Prim.Native.Nat.{◌+◌, ◌*◌, ◌-◌}
use Rattle.calls_bytes.specs.Bytes.{u32_at}
use Rattle.calls_bytes.specs.Tails.{numbers_from}
use Rattle.calls_bytes.proofs.Rows.{onward, ended, numbers_from-on, numbers_from-none}
use native.Mathlib.Omega.{arith}
use Rattle.calls_bytes.proofs.tails.store_words.Goals as goal

pub loop-i-preserved : goal.loop-i-preserved
loop-i-preserved c = let a = c.args in
    let o = c.loop-i in
    let q = a.p + 4 * o.i in
    let e = rw c.u32_at.ensures at c.store_word.ensures in
    onward o.w (a.first + o.i) (a.first + (o.i + 1)) (u32_at a.s.now q ∷ []) (numbers_from a.s.now (a.p + 4 * (o.i + 1)) (a.count - (o.i + 1)))
    (numbers_from a.s.now q (a.count - o.i))
    (numbers_from-on a.s.now q (a.p + 4 * (o.i + 1)) (a.count - o.i) (a.count - (o.i + 1)) (omega arith) (omega arith))
    o.invariant e (omega arith)

pub returns : goal.returns
returns c = let a = c.args in
    let o = c.loop-i in
    let e : a.count - o.i ≡ 0 = omega (arith, c.loop-i-test.false) in
    ended o.w (a.first + o.i) (numbers_from a.s.now (a.p + 4 * o.i) (a.count - o.i))
    (numbers_from-none a.s.now (a.p + 4 * o.i) (a.count - o.i) e) o.invariant
