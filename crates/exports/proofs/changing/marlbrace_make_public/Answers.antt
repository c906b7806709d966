-- `marlbrace_make_public` meets its contract: make_public, with its answer in one number. Assumes nothing.
use borrow.Author.Rules.{rules}
use Rattle.pool_state.specs.Rules.{answer_as}
use Rattle.exports.proofs.Told.{tells}
use Rattle.exports.proofs.changing.marlbrace_make_public.Goals as goal

pub returns : goal.returns
returns c = tells (answer_as c.make_public.result) c.make_public.ensures c.of_answer.ensures c.packed.ensures
