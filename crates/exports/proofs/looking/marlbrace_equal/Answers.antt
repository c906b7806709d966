-- `marlbrace_equal` meets its contract: equal, with its answer in one number. Assumes nothing.
use borrow.Author.Rules.{rules}
use mathlib.Core.Path.{ap, ◌∙◌}
use Rattle.calls_replies.specs.Replies.{flag_reply}
use Rattle.calls_packed.specs.Packed.{packed}
use Rattle.exports.proofs.looking.marlbrace_equal.Goals as goal

pub returns : goal.returns
returns c = c.packed.ensures ∙ ap packed c.of_told.ensures ∙ ap (λ a. packed (flag_reply a)) c.equal.ensures
