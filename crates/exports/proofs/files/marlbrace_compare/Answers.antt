-- `marlbrace_compare` meets its contract: compare, with its answer in one number. Assumes nothing.
use borrow.Author.Rules.{rules}
use mathlib.Core.Path.{ap, ◌∙◌}
use Rattle.calls_replies.specs.Replies.{compared_reply}
use Rattle.exports.proofs.Told.{with_row}
use Rattle.exports.proofs.files.marlbrace_compare.Goals as goal

pub returns : goal.returns
returns c = with_row (c.of_compared-a.ensures ∙ ap compared_reply c.compare.ensures) c.put_row.ensures c.packed.ensures
