-- `marlbrace_contains` meets its contract: contains, with its answer in one number. Assumes nothing.
use borrow.Author.Rules.{rules}
use mathlib.Core.Path.{ap, ◌∙◌}
use Rattle.calls_replies.specs.Replies.{contain_reply}
use Rattle.calls_packed.specs.Packed.{packed}
use Rattle.exports.proofs.looking.marlbrace_contains.Goals as goal

pub returns : goal.returns
returns c = c.packed.ensures ∙ ap packed c.of_contained.ensures ∙ ap (λ a. packed (contain_reply a)) (rw c.net.ensures at c.contains.ensures)
