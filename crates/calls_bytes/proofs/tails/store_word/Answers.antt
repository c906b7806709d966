-- `tails::store_word` meets its contract: a store is a write of one, and past the end nothing is written. Assumes nothing.
use mathlib.Core.Path.{sym}
use Rattle.nodes.proofs.Put.{set-put}
use Rattle.calls_bytes.proofs.Rows.{put-past}
use Rattle.calls_bytes.proofs.tails.store_word.Goals as goal

pub returns-then-w-i : goal.returns-then-w-i
returns-then-w-i c = sym (put-past _ _ _ c.if-w-i.true)

pub returns : goal.returns
returns c = set-put _ _ _
