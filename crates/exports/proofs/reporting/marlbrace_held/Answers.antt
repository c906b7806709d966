-- `marlbrace_held` meets its contract: held, with its answer in one number. Assumes nothing.
use borrow.Author.Rules.{rules}
use mathlib.Core.Path.{ap, ◌∙◌}
use Rattle.calls_replies.specs.Replies.{two_reply}
use Rattle.calls_packed.specs.Packed.{packed, first_of}
use Rattle.exports.proofs.reporting.marlbrace_held.Goals as goal

pub returns : goal.returns
returns c = c.packed.ensures ∙ ap packed (c.first_of.ensures ∙ ap first_of c.of_report.ensures ∙ ap (λ a. first_of (two_reply a)) c.held.ensures)
