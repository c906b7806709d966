-- `drop_half` meets its contract. Assumes nothing.
use native.Mathlib.Omega.{arith}
use Rattle.kept_acts.proofs.Acted.{half-fits, drop-moves, drop-became, drop-moves-first, drop-moves-tail, drop-became-first}
use Rattle.kept_acts.proofs.drop_half.Goals as goal

pub overflow_sub-u : goal.overflow_sub-u
overflow_sub-u c = let (n, p, l, r, rest, g) = c.requires in omega (arith, half-fits g)

pub move_nodes-requires : goal.move_nodes-requires
move_nodes-requires c = let (n, p, l, r, rest, g) = c.requires in drop-moves g

pub overflow_sub-result : goal.overflow_sub-result
overflow_sub-result c = let (n, p, l, r, rest, g) = c.requires in omega (arith, half-fits g)

pub overflow_add-result : goal.overflow_add-result
overflow_add-result c = let (n, p, l, r, rest, g) = c.requires in omega (arith, half-fits g)

pub returns-then-bit : goal.returns-then-bit
returns-then-bit c n p l r rest g = rw c.if-bit.true (drop-became g c.move_nodes.ensures)

pub overflow_add-i : goal.overflow_add-i
overflow_add-i c = let (n, p, l, r, rest, g) = c.requires in omega (arith, half-fits g)

pub overflow_add-i-2 : goal.overflow_add-i-2
overflow_add-i-2 c = let (n, p, l, r, rest, g) = c.requires in omega (arith, half-fits g)

pub overflow_sub-m : goal.overflow_sub-m
overflow_sub-m c = let (n, p, l, r, rest, g) = c.requires in omega (arith, half-fits g)

pub move_nodes-requires-2 : goal.move_nodes-requires-2
move_nodes-requires-2 c = let (n, p, l, r, rest, g) = c.requires in drop-moves-first g

pub overflow_sub-m-2 : goal.overflow_sub-m-2
overflow_sub-m-2 c = let (n, p, l, r, rest, g) = c.requires in omega (arith, half-fits g)

pub overflow_sub-u-2 : goal.overflow_sub-u-2
overflow_sub-u-2 c = let (n, p, l, r, rest, g) = c.requires in omega (arith, half-fits g)

pub move_nodes-requires-3 : goal.move_nodes-requires-3
move_nodes-requires-3 c = let (n, p, l, r, rest, g) = c.requires in
    drop-moves-tail g c.move_nodes-2.ensures

pub overflow_sub-result-2 : goal.overflow_sub-result-2
overflow_sub-result-2 c = let (n, p, l, r, rest, g) = c.requires in omega (arith, half-fits g)

pub returns : goal.returns
returns c n p l r rest g = rw c.if-bit.false (drop-became-first g c.move_nodes-2.ensures c.move_nodes-3.ensures)
