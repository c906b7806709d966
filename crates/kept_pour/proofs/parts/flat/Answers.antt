-- `parts::flat` meets its contract. Assumes nothing.
use Rattle.kept_pour.proofs.Found.{flat-full, flat-none, flat-writable}
use Rattle.kept_pour.proofs.parts.flat.Goals as goal

pub write_node-requires : goal.write_node-requires
write_node-requires c = flat-writable (rw c.if-full.true at c.requires)

pub returns-then-full : goal.returns-then-full
returns-then-full c p is le = rw c.if-full.true (flat-full p is le c.write_node.ensures)

pub returns : goal.returns
returns c p is le = rw c.if-full.false (flat-none p)
