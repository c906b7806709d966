-- `flat` meets its contract. Assumes nothing.
use native.Mathlib.Omega.{arith}
use mathlib.Core.Bool.{true}
use Rattle.kept_acts.proofs.Acted.{flat-moves, none_moves, flat-writes, flat-became, none-became}
use Rattle.kept_acts.proofs.flat.Goals as goal

pub overflow_add-i : goal.overflow_add-i
overflow_add-i c = let (n, p, s, t, rest, is, g) = c.requires in omega (arith, g.here.end, g.here.tail, g.here.last, g.here.room.few)

pub overflow_sub-u : goal.overflow_sub-u
overflow_sub-u c = let (n, p, s, t, rest, is, g) = c.requires in omega (arith, g.here.tail)

pub move_nodes-requires : goal.move_nodes-requires
move_nodes-requires c = let (n, p, s, t, rest, is, g) = c.requires in flat-moves true (rw c.if-into.true at g)

pub write_node-requires : goal.write_node-requires
write_node-requires c = let (n, p, s, t, rest, is, g) = c.requires in
    flat-writes (rw c.if-into.true at g) c.move_nodes.ensures

pub overflow_add-result : goal.overflow_add-result
overflow_add-result c = let (n, p, s, t, rest, is, g) = c.requires in
    omega (arith, g.here.end, g.here.tail, g.here.last, g.here.room.few)

pub returns-then-into : goal.returns-then-into
returns-then-into c n p s t rest is g = let o = c.if-into.true in
    rw o (flat-became (rw o at g) c.move_nodes.ensures (c.write_node.ensures s is g.long))

pub overflow_sub-u-2 : goal.overflow_sub-u-2
overflow_sub-u-2 c = let (n, p, s, t, rest, is, g) = c.requires in omega (arith, g.here.tail)

pub move_nodes-requires-2 : goal.move_nodes-requires-2
move_nodes-requires-2 c = let (n, p, s, t, rest, is, g) = c.requires in none_moves (rw c.if-into.false at g)

pub returns : goal.returns
returns c n p s t rest is g = let o = c.if-into.false in
    rw o (none-became (rw o at g) c.move_nodes-2.ensures)
