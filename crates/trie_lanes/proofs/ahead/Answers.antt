-- `ahead` meets its contract, by its test. Assumes nothing.
use Rattle.trie_lanes.proofs.ahead.Goals as goal

pub returns-then-on : goal.returns-then-on
returns-then-on c = rw c.if-on.true

pub returns-else-on : goal.returns-else-on
returns-else-on c = rw c.if-on.false
