-- `relinking::granted` meets its contract: the roots are right, and then the index. Assumes nothing.
use mathlib.Core.Path.{refl}
use borrow.Author.Rules.{rules}
use Rattle.pool_state.proofs.Reindexed.{relinked-index, relinked-settled}
use Rattle.pool_change.proofs.relinking.granted.Goals as goal

pub relink-requires : goal.relink-requires
relink-requires c = c.requires.relink

pub reindex-requires : goal.reindex-requires
reindex-requires c = relinked-index c.requires c.relink.ensures

pub returns : goal.returns
returns c = (refl, relinked-settled c.requires c.relink.ensures c.reindex.ensures)
