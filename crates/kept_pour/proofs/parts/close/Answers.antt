-- `parts::close` meets its contract. Assumes nothing.
use native.Mathlib.Omega.{arith}
use Rattle.kept_pour.proofs.Found.{close-first, close-second, close-two, close-writable, close-both}
use Rattle.kept_pour.proofs.parts.close.Goals as goal

pub returns-then-m-o : goal.returns-then-m-o
returns-then-m-o c v p l r is le k = close-first k c.if-m-o.true

pub returns-then-g-m : goal.returns-then-g-m
returns-then-g-m c v p l r is le k = close-second k c.if-g-m.true

pub overflow_sub-i : goal.overflow_sub-i
overflow_sub-i c = omega (arith, close-two c.requires.4 c.if-m-o.false c.if-g-m.false)

pub overflow_sub-m : goal.overflow_sub-m
overflow_sub-m c = omega (arith, c.if-m-o.false)

pub write_node-requires : goal.write_node-requires
write_node-requires c = close-writable c.requires.4 c.if-m-o.false c.if-g-m.false

pub returns : goal.returns
returns c v p l r is le k = close-both k c.if-m-o.false c.if-g-m.false is le c.write_node.ensures
