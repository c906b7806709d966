-- `intersect` meets its contract: it is a combination. Assumes nothing.
use borrow.Author.Rules.{rules}
use Rattle.combine_sources.specs.Steps.{intersecting}
use Rattle.combine.proofs.intersect.Goals as goal

pub combine-requires : goal.combine-requires
combine-requires c = intersecting
