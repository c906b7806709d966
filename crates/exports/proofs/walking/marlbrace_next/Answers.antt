-- `marlbrace_next` meets its contract: next, with its answer in one number. Assumes nothing.
use borrow.Author.Rules.{rules}
use mathlib.Core.Path.{ap, ◌∙◌}
use Rattle.calls_replies.specs.Replies.{found_reply}
use Rattle.exports.proofs.Told.{with_row}
use Rattle.exports.proofs.walking.marlbrace_next.Goals as goal

pub returns : goal.returns
returns c = with_row (c.of_follower-a.ensures ∙ ap found_reply (rw c.net.ensures at c.next.ensures)) c.put_row.ensures c.packed.ensures
