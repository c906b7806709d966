-- `marlbrace_add_file` meets its contract: add_file, with its answer in one number. Assumes nothing.
use borrow.Author.Rules.{rules}
use Rattle.pool_state.specs.Rules.{answer_as}
use Rattle.exports.proofs.Told.{tells}
use Rattle.exports.proofs.changing.marlbrace_add_file.Goals as goal

pub returns : goal.returns
returns c = tells (answer_as c.add_file.result) c.add_file.ensures c.of_answer.ensures c.packed.ensures
