-- `marlbrace_contains_all` meets its contract: contains_all, with its answer in one number. Assumes nothing.
use borrow.Author.Rules.{rules}
use mathlib.Core.Path.{ap, ◌∙◌}
use Rattle.calls_replies.specs.Replies.{one_reply}
use Rattle.calls_packed.specs.Packed.{packed}
use Rattle.exports.proofs.looking.marlbrace_contains_all.Goals as goal

pub returns : goal.returns
returns c = let l = c.contains_all.ensures in
    record { value = c.packed.ensures ∙ ap packed c.of_answer.ensures ∙ ap (λ a. packed (one_reply a)) l.answer; answers_after = l.rows }
