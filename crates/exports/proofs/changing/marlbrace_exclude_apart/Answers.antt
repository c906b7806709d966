-- `marlbrace_exclude_apart` meets its contract: exclude_apart, with its answer in one number. Assumes nothing.
use borrow.Author.Rules.{rules}
use Rattle.pool_state.specs.Rules.{answer_as}
use Rattle.exports.proofs.Told.{tells}
use Rattle.exports.proofs.changing.marlbrace_exclude_apart.Goals as goal

pub returns : goal.returns
returns c = tells (answer_as c.exclude_apart.result) c.exclude_apart.ensures c.of_answer.ensures c.packed.ensures
