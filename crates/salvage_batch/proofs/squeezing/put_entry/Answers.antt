-- `squeezing::put_entry` meets its contract. Assumes nothing.
use borrow.Author.Rules.{rules}
use Rattle.salvage_batch.proofs.Thinnings.{entry-room, entry-placed}
use Rattle.salvage_batch.proofs.squeezing.put_entry.Goals as goal

pub put_at-requires : goal.put_at-requires
put_at-requires c = let p = c.requires in ((_, _, p.0.is, p.0.short), entry-room _ p.0 c.file_bytes.ensures p.2)

pub returns : goal.returns
returns c = let p = c.requires in
    entry-placed _ _ _ _ c.file_bytes.ensures (c.put_at.ensures _ _ p.0.is p.0.short)
