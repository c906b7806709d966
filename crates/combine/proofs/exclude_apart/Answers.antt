-- `exclude_apart` meets its contract: it is a combination. Assumes nothing.
use borrow.Author.Rules.{rules}
use Rattle.combine_sources.specs.Steps.{excluding_apart}
use Rattle.combine.proofs.exclude_apart.Goals as goal

pub combine-requires : goal.combine-requires
combine-requires c = excluding_apart
