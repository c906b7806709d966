-- `keep` meets its contract. Assumes nothing.
use native.Mathlib.Omega.{arith}
use Rattle.trie_pour.proofs.Parts.{keep-room, keep-whole, keep-none, keep_same, keep-fits, keep-moved}
use Rattle.trie_pour.proofs.keep.Goals as goal

pub flat-requires : goal.flat-requires
flat-requires c = keep-room c.requires.1 c.if-i-eq0.true

pub returns-then-i-eq0 : goal.returns-then-i-eq0
returns-then-i-eq0 c t k = keep-whole k c.if-i-eq0.true c.flat.ensures

pub returns-then-i-e : goal.returns-then-i-e
returns-then-i-e c t k = keep-none k c.if-i-eq0.false c.if-i-e.true

pub returns-then-i-o : goal.returns-then-i-o
returns-then-i-o c t k = keep_same k c.if-i-eq0.false c.if-i-o.true

pub overflow_sub-i : goal.overflow_sub-i
overflow_sub-i c = let f = keep-fits c.requires.1 c.if-i-eq0.false c.if-i-e.false in omega arith

pub overflow_add-b : goal.overflow_add-b
overflow_add-b c = let f = keep-fits c.requires.1 c.if-i-eq0.false c.if-i-e.false in omega arith

pub overflow_sub-o : goal.overflow_sub-o
overflow_sub-o c = let f = keep-fits c.requires.1 c.if-i-eq0.false c.if-i-e.false in omega arith

pub overflow_add-b-2 : goal.overflow_add-b-2
overflow_add-b-2 c = let f = keep-fits c.requires.1 c.if-i-eq0.false c.if-i-e.false in omega arith

pub overflow_sub-e : goal.overflow_sub-e
overflow_sub-e c = let f = keep-fits c.requires.1 c.if-i-eq0.false c.if-i-e.false in omega arith

pub shift-requires : goal.shift-requires
shift-requires c = let f = keep-fits c.requires.1 c.if-i-eq0.false c.if-i-e.false in (f.3, f.5)

pub overflow_sub-result : goal.overflow_sub-result
overflow_sub-result c = let f = keep-fits c.requires.1 c.if-i-eq0.false c.if-i-e.false in
    omega arith

pub overflow_add-result : goal.overflow_add-result
overflow_add-result c = let f = keep-fits c.requires.1 c.if-i-eq0.false c.if-i-e.false in
    omega arith

pub returns : goal.returns
returns c t k = keep-moved k c.if-i-eq0.false c.shift.ensures
