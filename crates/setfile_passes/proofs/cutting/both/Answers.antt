-- `cutting::both` meets its contract. Assumes nothing.
use mathlib.Core.Path.{refl}
use Rattle.setfile_passes.proofs.Cuts.{both-none, both_some}
use Rattle.setfile_passes.proofs.cutting.both.Goals as goal

pub returns-then-i-e : goal.returns-then-i-e
returns-then-i-e c = both-none _ _ _ c.if-i-e.true

pub returns : goal.returns
returns c = both_some _ _ _ c.if-i-e.false _ refl
