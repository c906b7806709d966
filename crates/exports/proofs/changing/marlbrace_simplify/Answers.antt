-- `marlbrace_simplify` meets its contract: simplify, with its answer in one number. Assumes nothing.
use borrow.Author.Rules.{rules}
use Rattle.pool_state.specs.Rules.{answer_as}
use Rattle.exports.proofs.Told.{tells}
use Rattle.exports.proofs.changing.marlbrace_simplify.Goals as goal

pub returns : goal.returns
returns c = tells (answer_as c.simplify.result) c.simplify.ensures c.of_answer.ensures c.packed.ensures
