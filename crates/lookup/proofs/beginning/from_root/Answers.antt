-- `beginning::from_root` meets its contract. Assumes nothing.
use mathlib.Core.Path.{◌∙◌}
use Rattle.lookup.proofs.Beginnings.{ground-room, root-walk}
use Rattle.lookup.proofs.beginning.from_root.Goals as goal

pub grounds-g-requires : goal.grounds-g-requires
grounds-g-requires c = let p = c.requires in (p.0, p.1)

pub walk_from-requires : goal.walk_from-requires
walk_from-requires c = let p = c.requires in (ground-room _ _ c.grounds-g.ensures p.0, p.2)

pub returns : goal.returns
returns c = c.walk_from.ensures ∙ root-walk _ _ c.grounds-g.ensures _
