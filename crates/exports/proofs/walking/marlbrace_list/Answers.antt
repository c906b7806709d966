-- `marlbrace_list` meets its contract: list, with its answer in one number. Assumes nothing.
use borrow.Author.Rules.{rules}
use mathlib.Core.Path.{ap, ◌∙◌}
use Rattle.calls_replies.specs.Replies.{one_reply}
use Rattle.calls_packed.specs.Packed.{packed}
use Rattle.exports.proofs.walking.marlbrace_list.Goals as goal

pub returns : goal.returns
returns c = let l = c.list.ensures in
    record { value = c.packed.ensures ∙ ap packed c.of_answer.ensures ∙ ap (λ a. packed (one_reply a)) l.answer; rows_after = l.rows }
