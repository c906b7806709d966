-- `marlbrace_read_line_either` meets its contract: read_line, with its answer in one number. Assumes nothing.
use borrow.Author.Rules.{rules}
use mathlib.Core.Path.{ap, ◌∙◌}
use Rattle.calls_replies.specs.Replies.{enter_reply}
use Rattle.calls_packed.specs.Packed.{line_reply}
use Rattle.exports.proofs.Told.{with_row}
use Rattle.exports.proofs.texts.marlbrace_read_line_either.Goals as goal

pub returns : goal.returns
returns c = with_row (c.of_line-a.ensures ∙ ap line_reply c.of_entered.ensures ∙ ap (λ a. line_reply (enter_reply a)) c.read_line.ensures) c.put_row.ensures c.packed.ensures
