-- `tails::put_rows` meets its contract. The loop's invariant: the bytes of the rows from i on complete it. Assumes nothing.
use mathlib.Core.Path.{◌≡◌}
use Prim.Native.Nat.{◌+◌, ◌*◌, ◌-◌}
use lib.ListN.{get_or}
use Rattle.calls_bytes.specs.Bytes.{u64_bytes}
use Rattle.calls_bytes.specs.Tails.{words_from, row_bytes}
use Rattle.calls_bytes.proofs.Written.{length-u64}
use Rattle.calls_bytes.proofs.Rows.{onward, ended, row_bytes-on, row_bytes-none}
use native.Mathlib.Omega.{arith}
use Rattle.calls_bytes.proofs.tails.put_rows.Goals as goal

pub loop-i-preserved : goal.loop-i-preserved
loop-i-preserved c = let a = c.args in
    let o = c.loop-i in
    let x = get_or a.rows.now o.i 0 in
    onward o.out (a.at + 8 * o.i) (a.at + 8 * (o.i + 1)) (u64_bytes x) (row_bytes u64_bytes (words_from a.rows.now (o.i + 1) (a.count - (o.i + 1))))
    (row_bytes u64_bytes (words_from a.rows.now o.i (a.count - o.i)))
    (row_bytes-on u64_bytes a.rows.now o.i (o.i + 1) (a.count - o.i) (a.count - (o.i + 1)) (omega arith) (omega arith))
    o.invariant c.put_u64.ensures (omega (arith, length-u64 x))

pub returns : goal.returns
returns c = let a = c.args in
    let o = c.loop-i in
    let e : a.count - o.i ≡ 0 = omega (arith, c.loop-i-test.false) in
    ended o.out (a.at + 8 * o.i) (row_bytes u64_bytes (words_from a.rows.now o.i (a.count - o.i)))
    (row_bytes-none u64_bytes a.rows.now o.i (a.count - o.i) e) o.invariant
