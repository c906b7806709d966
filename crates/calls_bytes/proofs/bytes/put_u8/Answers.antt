-- `bytes::put_u8` meets its contract: a store is a write of one. Assumes nothing.
use Rattle.nodes.proofs.Put.{set-put}
use Rattle.calls_bytes.proofs.bytes.put_u8.Goals as goal

pub returns : goal.returns
returns c = set-put _ _ _
