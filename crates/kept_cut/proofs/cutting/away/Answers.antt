-- `cutting::away` meets its contract. Assumes nothing.
use mathlib.Core.Path.{refl}
use Rattle.kept_cut.proofs.cutting.away.Goals as goal

pub drop_all-requires : goal.drop_all-requires
drop_all-requires c = let (q, p, u, ms, t, g) = c.requires in (p, t, g.here)

pub pass-head-requires : goal.pass-head-requires
pass-head-requires c = let (q, p, u, ms, t, g) = c.requires in (q, p, u, ms, g.at)

pub returns : goal.returns
returns c q p u ms t g = (record { wrote = c.drop_all.ensures p t g.here; rest = refl }, c.pass-head.ensures q p u ms g.at)
