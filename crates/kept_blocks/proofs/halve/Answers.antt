-- `halve` meets its contract. Assumes nothing.
use native.Mathlib.Omega.{arith}
use mathlib.Core.Path.{refl}
use Rattle.kept_blocks.proofs.Remaining.{halve-len, halve-fits, halve-moves, halve-blocks, halve-became}
use Rattle.kept_blocks.proofs.halve.Goals as goal

pub overflow_sub-k : goal.overflow_sub-k
overflow_sub-k c = let (n, p, r, s, t, rest, is, way, more, g) = c.requires in omega (arith, halve-len way more g _ is)

pub overflow_cast-k : goal.overflow_cast-k
overflow_cast-k c = let (n, p, r, s, t, rest, is, way, more, g) = c.requires in omega (arith, halve-len way more g _ is)

pub overflow_mul-k : goal.overflow_mul-k
overflow_mul-k c = let (n, p, r, s, t, rest, is, way, more, g) = c.requires in omega (arith, halve-len way more g _ is)

pub overflow_sub-k-2 : goal.overflow_sub-k-2
overflow_sub-k-2 c = let (n, p, r, s, t, rest, is, way, more, g) = c.requires in omega (arith, halve-len way more g _ is)

pub overflow_add-i : goal.overflow_add-i
overflow_add-i c = let (n, p, r, s, t, rest, is, way, more, g) = c.requires in omega (arith, halve-fits way more g _ is _ refl)

pub overflow_sub-u : goal.overflow_sub-u
overflow_sub-u c = let (n, p, r, s, t, rest, is, way, more, g) = c.requires in omega (arith, halve-fits way more g _ is _ refl)

pub move_nodes-requires : goal.move_nodes-requires
move_nodes-requires c = let (n, p, r, s, t, rest, is, way, more, g) = c.requires in halve-moves way more g _ is _ refl

pub blocks-requires : goal.blocks-requires
blocks-requires c = let (n, p, r, s, t, rest, is, way, more, g) = c.requires in
    (n, p, r, is, halve-blocks way more g _ is _ refl c.move_nodes.ensures)

pub overflow_add-result : goal.overflow_add-result
overflow_add-result c = let (n, p, r, s, t, rest, is, way, more, g) = c.requires in
    omega (arith, halve-fits way more g _ is _ refl)

pub returns : goal.returns
returns c n p r s t rest is way more g = halve-became way more g _ is _ refl c.move_nodes.ensures
    (c.blocks-2.ensures n p r is (halve-blocks way more g _ is _ refl c.move_nodes.ensures))
