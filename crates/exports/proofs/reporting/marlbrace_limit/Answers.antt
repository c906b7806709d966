-- `marlbrace_limit` meets its contract: plan, with its answer in one number. Assumes nothing.
use borrow.Author.Rules.{rules}
use mathlib.Core.Path.{ap, ◌∙◌}
use Rattle.calls_replies.specs.Replies.{two_reply}
use Rattle.calls_packed.specs.Packed.{packed, second_of}
use Rattle.exports.proofs.reporting.marlbrace_limit.Goals as goal

pub returns : goal.returns
returns c = c.packed.ensures ∙ ap packed (c.second_of.ensures ∙ ap second_of c.of_report.ensures ∙ ap (λ a. second_of (two_reply a)) c.plan.ensures)
