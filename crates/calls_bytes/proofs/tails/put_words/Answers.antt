-- `tails::put_words` meets its contract. The loop's invariant: the bytes of the words from i on complete it. Assumes nothing.
use mathlib.Core.Path.{◌≡◌}
use Prim.Native.Nat.{◌+◌, ◌*◌, ◌-◌}
use lib.ListN.{get_or}
use Rattle.calls_bytes.specs.Bytes.{u32_bytes}
use Rattle.calls_bytes.specs.Tails.{words_from, row_bytes}
use Rattle.calls_bytes.proofs.Written.{length-u32}
use Rattle.calls_bytes.proofs.Rows.{onward, ended, row_bytes-on, row_bytes-none}
use native.Mathlib.Omega.{arith}
use Rattle.calls_bytes.proofs.tails.put_words.Goals as goal

pub loop-i-preserved : goal.loop-i-preserved
loop-i-preserved c = let a = c.args in
    let o = c.loop-i in
    let x = get_or a.w.now (a.first + o.i) 0 in
    let e = rw c.word_at.ensures at c.put_u32.ensures in
    onward o.out (a.at + 4 * o.i) (a.at + 4 * (o.i + 1)) (u32_bytes x) (row_bytes u32_bytes (words_from a.w.now (a.first + (o.i + 1)) (a.count - (o.i + 1))))
    (row_bytes u32_bytes (words_from a.w.now (a.first + o.i) (a.count - o.i)))
    (row_bytes-on u32_bytes a.w.now (a.first + o.i) (a.first + (o.i + 1)) (a.count - o.i) (a.count - (o.i + 1)) (omega arith) (omega arith))
    o.invariant e (omega (arith, length-u32 x))

pub returns : goal.returns
returns c = let a = c.args in
    let o = c.loop-i in
    let e : a.count - o.i ≡ 0 = omega (arith, c.loop-i-test.false) in
    ended o.out (a.at + 4 * o.i) (row_bytes u32_bytes (words_from a.w.now (a.first + o.i) (a.count - o.i)))
    (row_bytes-none u32_bytes a.w.now (a.first + o.i) (a.count - o.i) e) o.invariant
