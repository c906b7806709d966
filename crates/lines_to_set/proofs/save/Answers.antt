-- What `setfile::save` says that it wrote lies within the lent bytes. Assumes nothing.
use mathlib.Core.Path.{sym}
use native.Mathlib.Omega.{arith}
use lib.Seq.{length-take-le}
use Rattle.lines_to_set.proofs.Fits.{saved-fits}
use Rattle.lines_to_set.proofs.save.Goals as goal

pub slice_bounds-write-end : goal.slice_bounds-write-end
slice_bounds-write-end c = let s = c.save-saved in omega (arith, saved-fits s.ensures c.in-Ok.is, s.auto.out)

pub slice_bounds-write-end-in-Ok : goal.slice_bounds-write-end-in-Ok
slice_bounds-write-end-in-Ok c = sym (length-take-le c.in-Ok.k c.save-saved.new.out (slice_bounds-write-end c))
