-- `marlbrace_salvage` meets its contract: salvage, with its answer in one number and its counts. Assumes nothing.
use borrow.Author.Rules.{rules}
use Rattle.exports.proofs.Told.{saves-told}
use Rattle.exports.proofs.files.marlbrace_salvage.Goals as goal

pub returns : goal.returns
returns c = saves-told c.salvage-a.ensures c.put_counts.ensures c.of_salvaged.ensures c.first_of.ensures c.packed.ensures
