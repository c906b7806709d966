-- `move_nodes` meets its contract, by the family. Assumes nothing.
use Rattle.kept_writing.proofs.Stores.{moves-short, moves_long, moved-short, moved-long}
use Rattle.kept_writing.proofs.move_nodes.Goals as goal

pub shift-requires : goal.shift-requires
shift-requires c = moves-short c.requires c.if-family-eq-IPV4.true

pub shift-requires-else-family-eq-IPV4 : goal.shift-requires-else-family-eq-IPV4
shift-requires-else-family-eq-IPV4 c = moves_long c.requires c.if-family-eq-IPV4.false

pub returns-then-family-eq-IPV4 : goal.returns-then-family-eq-IPV4
returns-then-family-eq-IPV4 c = moved-short _ _ _ _ _ _ _ c.if-family-eq-IPV4.true c.shift.ensures

pub returns-else-family-eq-IPV4 : goal.returns-else-family-eq-IPV4
returns-else-family-eq-IPV4 c = moved-long _ _ _ _ _ _ _ c.if-family-eq-IPV4.false c.shift-else-family-eq-IPV4.ensures
