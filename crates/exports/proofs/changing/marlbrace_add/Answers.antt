-- `marlbrace_add` meets its contract: add, with its answer in one number. Assumes nothing.
use borrow.Author.Rules.{rules}
use Rattle.change.specs.Calls.{noted_as}
use Rattle.exports.proofs.Told.{tells}
use Rattle.exports.proofs.changing.marlbrace_add.Goals as goal

pub returns : goal.returns
returns c = tells (noted_as c.add.result) (rw c.net.ensures at c.add.ensures) c.of_noted.ensures c.packed.ensures
