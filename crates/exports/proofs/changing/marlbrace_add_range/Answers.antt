-- `marlbrace_add_range` meets its contract: add_range, with its answer in one number. Assumes nothing.
use borrow.Author.Rules.{rules}
use Rattle.pool_state.specs.Rules.{answer_as}
use Rattle.exports.proofs.Told.{tells}
use Rattle.exports.proofs.changing.marlbrace_add_range.Goals as goal

pub returns : goal.returns
returns c = tells (answer_as c.add_range.result) (rw c.span_of-span.ensures at c.add_range.ensures) c.of_answer.ensures c.packed.ensures
