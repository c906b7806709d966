-- `tails::fill_rows` meets its contract: what is filled stands before the rest. Assumes nothing.
use native.Mathlib.Omega.{arith}
use lib.Seq.{length-take-le}
use Rattle.calls_bytes.proofs.Rows.{filled}
use Rattle.calls_bytes.proofs.tails.fill_rows.Goals as goal

pub returns : goal.returns
returns c = let a = c.args in
    let w = a.rows.now in
    let e = c.fill.ensures.after (λ y h. h) in
    rw (e, length-take-le a.count w c.requires) (filled w 0 a.count a.x (omega (arith, c.requires)))
