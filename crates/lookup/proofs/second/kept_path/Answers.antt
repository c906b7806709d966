-- `second::kept_path` meets its contract. Assumes nothing.
use native.Mathlib.Omega.{arith}
use borrow.Author.Rules.{rules}
use Rattle.lookup.proofs.Seconds.{kept-asks, kept-shows}
use Rattle.lookup.proofs.second.kept_path.Goals as goal

pub grounds-g-requires : goal.grounds-g-requires
grounds-g-requires c = let p = c.requires in (p.0, p.1)

pub kept_walk_from-requires : goal.kept_walk_from-requires
kept_walk_from-requires c = let p = c.requires in kept-asks _ _ c.grounds-g.ensures _ p.2 p.0 p.3 (omega arith)

pub returns : goal.returns
returns c = kept-shows _ _ c.grounds-g.ensures _ c.requires.2 c.kept_walk_from.ensures c.shown.ensures
