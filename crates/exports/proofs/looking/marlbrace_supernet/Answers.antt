-- `marlbrace_supernet` meets its contract: supernet, with its answer in one number. Assumes nothing.
use borrow.Author.Rules.{rules}
use mathlib.Core.Path.{ap, ◌∙◌}
use Rattle.calls_replies.specs.Replies.{cover_reply}
use Rattle.exports.proofs.Told.{with_row}
use Rattle.exports.proofs.looking.marlbrace_supernet.Goals as goal

pub returns : goal.returns
returns c = with_row (c.of_covering-a.ensures ∙ ap cover_reply (rw c.net.ensures at c.supernet.ensures)) c.put_row.ensures c.packed.ensures
