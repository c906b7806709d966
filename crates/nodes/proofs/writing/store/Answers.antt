-- `writing::store` meets its contract: a store is a write of one word. Assumes nothing.
use Rattle.nodes.proofs.Put.{set-put}
use Rattle.nodes.proofs.writing.store.Goals as goal

pub returns : goal.returns
returns c = set-put _ _ _
