-- `fork` meets its contract. Assumes nothing.
-- the places, and what was moved and written, one after the other
use native.Mathlib.Omega.{arith}
use Rattle.kept_acts.proofs.Acted.{fork-fits, fork-moves, fork-moves-two, fork-writes, fork-writes-two, fork-became}
use Rattle.kept_acts.proofs.fork.Goals as goal

pub beside-h-requires : goal.beside-h-requires
beside-h-requires c = let (n, p, s, t, rest, ip, is, g) = c.requires in omega (arith, fork-fits g)

pub overflow_add-e : goal.overflow_add-e
overflow_add-e c = let (n, p, s, t, rest, ip, is, g) = c.requires in omega (arith, fork-fits g)

pub overflow_sub-u : goal.overflow_sub-u
overflow_sub-u c = let (n, p, s, t, rest, ip, is, g) = c.requires in omega (arith, fork-fits g)

pub move_nodes-requires : goal.move_nodes-requires
move_nodes-requires c = let (n, p, s, t, rest, ip, is, g) = c.requires in fork-moves g

pub overflow_sub-e : goal.overflow_sub-e
overflow_sub-e c = let (n, p, s, t, rest, ip, is, g) = c.requires in omega (arith, fork-fits g)

pub move_nodes-requires-2 : goal.move_nodes-requires-2
move_nodes-requires-2 c = let (n, p, s, t, rest, ip, is, g) = c.requires in
    fork-moves-two g c.args.bit c.beside-h.ensures c.move_nodes.ensures

pub write_node-requires : goal.write_node-requires
write_node-requires c = let (n, p, s, t, rest, ip, is, g) = c.requires in
    fork-writes g c.args.bit c.beside-h.ensures c.move_nodes.ensures c.move_nodes-2.ensures

pub write_node-requires-2 : goal.write_node-requires-2
write_node-requires-2 c = let (n, p, s, t, rest, ip, is, g) = c.requires in
    fork-writes-two g c.args.bit c.beside-h.ensures c.move_nodes.ensures c.move_nodes-2.ensures (c.write_node.ensures p ip g.short)

pub overflow_add-result : goal.overflow_add-result
overflow_add-result c = let (n, p, s, t, rest, ip, is, g) = c.requires in
    omega (arith, fork-fits g)

pub returns : goal.returns
returns c n p s t rest ip is g = fork-became g c.args.bit c.beside-h.ensures c.move_nodes.ensures c.move_nodes-2.ensures (c.write_node.ensures p ip g.short)
    (c.write_node-2.ensures s is g.long)
