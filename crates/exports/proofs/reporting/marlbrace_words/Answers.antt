-- `marlbrace_words` meets its contract: words, with its answer in one number. Assumes nothing.
use borrow.Author.Rules.{rules}
use mathlib.Core.Path.{ap, ◌∙◌}
use Rattle.calls_replies.specs.Replies.{one_reply}
use Rattle.calls_packed.specs.Packed.{packed}
use Rattle.exports.proofs.reporting.marlbrace_words.Goals as goal

pub returns : goal.returns
returns c = c.packed.ensures ∙ ap packed c.of_answer.ensures ∙ ap (λ a. packed (one_reply a)) c.words.ensures
