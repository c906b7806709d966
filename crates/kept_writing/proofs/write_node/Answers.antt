-- `write_node` meets its contract, by the family. Assumes nothing.
use Rattle.kept_writing.proofs.Stores.{fits-short, fits-long, writes_short, writes-long}
use Rattle.kept_writing.proofs.write_node.Goals as goal

pub write_short-requires : goal.write_short-requires
write_short-requires c = let g = c.requires in (fits-short g c.if-family-eq-IPV4.true, g.near)

pub write_long-requires : goal.write_long-requires
write_long-requires c = let g = c.requires in (fits-long g c.if-family-eq-IPV4.false, g.near)

pub returns-then-family-eq-IPV4 : goal.returns-then-family-eq-IPV4
returns-then-family-eq-IPV4 c = writes_short _ _ _ _ _ _ _ c.if-family-eq-IPV4.true c.write_short.ensures

pub returns-else-family-eq-IPV4 : goal.returns-else-family-eq-IPV4
returns-else-family-eq-IPV4 c = writes-long _ _ _ _ _ _ _ c.if-family-eq-IPV4.false c.write_long.ensures
