-- `merge` meets its contract: it is a combination. Assumes nothing.
use borrow.Author.Rules.{rules}
use Rattle.combine_sources.specs.Steps.{merging}
use Rattle.combine.proofs.merge.Goals as goal

pub combine-requires : goal.combine-requires
combine-requires c = merging
