-- `take_kept` meets its contract: where the count says more bytes than there are places, all of them are kept. Assumes nothing.
use mathlib.Core.Path.{sym}
use native.Mathlib.Omega.{arith}
use lib.Seq.{length-take-le, take_all}
use Rattle.lines_take.proofs.take_kept.Goals as goal

-- what a reader's type says of it: all its places are there
pub slice_bounds-line-end : goal.slice_bounds-line-end
slice_bounds-line-end c = omega (arith, c.well_formed.1.0.1.1.0.1.1.0.1.0.1)

pub slice_bounds-take-end : goal.slice_bounds-take-end
slice_bounds-take-end c = let r = c.args.g.reader in sym (length-take-le r.len r.line (omega (arith, c.well_formed.1.0.1.1.0.1.1.0.1.0.1)))

pub take-requires : goal.take-requires
take-requires c = c.requires

pub take-requires-2 : goal.take-requires-2
take-requires-2 c = c.requires

pub returns : goal.returns
returns c = let r = c.args.g.reader in
    rw (take_all r.len r.line (omega (arith, c.well_formed.1.0.1.1.0.1.1.0.1.0.1))) c.take-2.ensures
