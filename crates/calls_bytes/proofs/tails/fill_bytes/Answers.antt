-- `tails::fill_bytes` meets its contract: what is filled stands between the rest. Assumes nothing.
use mathlib.Core.Path.{◌≡◌}
use Prim.Native.Nat.{◌+◌, ◌-◌}
use native.Mathlib.Omega.{arith}
use lib.ListN.{drop, length-drop}
use lib.Seq.{length-take-le}
use Rattle.calls_bytes.proofs.Rows.{filled}
use Rattle.calls_bytes.proofs.tails.fill_bytes.Goals as goal

pub returns : goal.returns
returns c = let a = c.args in
    let w = a.out.now in
    let e = c.fill.ensures.after (λ y h. h) in
    let n : a.at + a.count - a.at ≡ a.count = omega arith in
    rw (e, n, length-take-le a.count (drop a.at w) (omega (arith, length-drop a.at w))) (filled w a.at a.count a.x c.requires)
