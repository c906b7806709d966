-- `parts::keep` meets its contract. Assumes nothing.
use native.Mathlib.Omega.{arith}
use Rattle.kept_pour.proofs.Found.{keep-room, keep-whole, keep-fits, keep_same, keep-movable, keep-moved}
use Rattle.kept_pour.proofs.parts.keep.Goals as goal

pub flat-requires : goal.flat-requires
flat-requires c = keep-room c.requires.3 c.if-i-eq0.true

pub returns-then-i-eq0 : goal.returns-then-i-eq0
returns-then-i-eq0 c n p t is le k = keep-whole k c.if-i-eq0.true (c.flat.ensures p is le)

pub overflow_sub-k : goal.overflow_sub-k
overflow_sub-k c = omega (arith, keep-fits c.requires.3 c.if-i-eq0.false)

pub overflow_sub-o : goal.overflow_sub-o
overflow_sub-o c = omega (arith, keep-fits c.requires.3 c.if-i-eq0.false)

pub returns-then-i-o : goal.returns-then-i-o
returns-then-i-o c n p t is le k = keep_same k c.if-i-eq0.false c.if-i-o.true

pub move_nodes-requires : goal.move_nodes-requires
move_nodes-requires c = keep-movable c.requires.3 c.if-i-eq0.false

pub returns : goal.returns
returns c n p t is le k = keep-moved k c.if-i-eq0.false c.move_nodes.ensures
