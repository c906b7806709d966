-- `marlbrace_replan` meets its contract: replan, with its answer in one number. Assumes nothing.
use borrow.Author.Rules.{rules}
use Rattle.pool_state.specs.Rules.{answer_as}
use Rattle.exports.proofs.Told.{tells}
use Rattle.exports.proofs.changing.marlbrace_replan.Goals as goal

pub returns : goal.returns
returns c = tells (answer_as c.replan.result) c.replan.ensures c.of_answer.ensures c.packed.ensures
