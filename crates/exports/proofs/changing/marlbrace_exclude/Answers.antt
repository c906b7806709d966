-- `marlbrace_exclude` meets its contract: exclude, with its answer in one number. Assumes nothing.
use borrow.Author.Rules.{rules}
use Rattle.pool_state.specs.Rules.{answer_as}
use Rattle.exports.proofs.Told.{tells}
use Rattle.exports.proofs.changing.marlbrace_exclude.Goals as goal

pub returns : goal.returns
returns c = tells (answer_as c.exclude.result) c.exclude.ensures c.of_answer.ensures c.packed.ensures
