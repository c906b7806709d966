-- `simplifying::moved` meets its contract, by its tests. Assumes nothing.
use native.Mathlib.Omega.{arith}
use Rattle.trie_blocks.proofs.Blocks.{moved_none, moved-leaf, moved_same, moved-fits, moved-put}
use Rattle.trie_blocks.proofs.simplifying.moved.Goals as goal

pub returns-then-i-e : goal.returns-then-i-e
returns-then-i-e c t fuel s = moved_none s c.requires.1 c.if-i-e.true

pub overflow_add-i : goal.overflow_add-i
overflow_add-i c = let (t, fuel, s) = c.requires.0 in omega (arith, s.here.end, s.here.few, s.here.used)

pub returns-then-i-e-2 : goal.returns-then-i-e-2
returns-then-i-e-2 c t fuel s = moved-leaf s c.requires.1 c.if-i-e-2.true

pub returns-then-i-o : goal.returns-then-i-o
returns-then-i-o c t fuel s = moved_same s c.requires.1 c.if-i-e.false c.if-i-e-2.false c.if-i-o.true

pub overflow_sub-i : goal.overflow_sub-i
overflow_sub-i c = let p = c.requires in omega (arith, moved-fits p.0.2 p.1 c.if-i-e.false c.if-i-e-2.false)

pub overflow_add-b : goal.overflow_add-b
overflow_add-b c = let p = c.requires in omega (arith, moved-fits p.0.2 p.1 c.if-i-e.false c.if-i-e-2.false)

pub overflow_sub-o : goal.overflow_sub-o
overflow_sub-o c = let p = c.requires in omega (arith, moved-fits p.0.2 p.1 c.if-i-e.false c.if-i-e-2.false)

pub overflow_add-b-2 : goal.overflow_add-b-2
overflow_add-b-2 c = let p = c.requires in omega (arith, moved-fits p.0.2 p.1 c.if-i-e.false c.if-i-e-2.false)

pub overflow_sub-e : goal.overflow_sub-e
overflow_sub-e c = let p = c.requires in omega (arith, moved-fits p.0.2 p.1 c.if-i-e.false c.if-i-e-2.false)

pub shift-requires : goal.shift-requires
shift-requires c = let p = c.requires in let f = moved-fits p.0.2 p.1 c.if-i-e.false c.if-i-e-2.false in (f.3, f.4)

pub overflow_sub-result : goal.overflow_sub-result
overflow_sub-result c = let p = c.requires in omega (arith, moved-fits p.0.2 p.1 c.if-i-e.false c.if-i-e-2.false)

pub overflow_add-result : goal.overflow_add-result
overflow_add-result c = let p = c.requires in omega (arith, moved-fits p.0.2 p.1 c.if-i-e.false c.if-i-e-2.false)

pub returns : goal.returns
returns c t fuel s = let p = c.requires in moved-put s p.1 c.if-i-e.false c.if-i-e-2.false c.shift.ensures
