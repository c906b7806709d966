-- `beside` meets its contract, by the side. Assumes nothing.
use native.Mathlib.Omega.{arith}
use mathlib.Core.Bool.{true, false}
use Rattle.trie_paths.specs.Spans.{snoc}
use Rattle.kept_blocks.proofs.Remaining.{beside-fits, beside-short, beside-writes, beside-writes-two, beside-second, beside_first}
use Rattle.kept_blocks.proofs.beside.Goals as goal

pub child-other-requires : goal.child-other-requires
child-other-requires c = let (n, p, is, g) = c.requires in (_, p, is, g.short)

pub overflow_add-m : goal.overflow_add-m
overflow_add-m c = let (n, p, is, g) = c.requires in omega (arith, beside-fits g)

pub write_node-requires : goal.write_node-requires
write_node-requires c = let (n, p, is, g) = c.requires in beside-writes g _ (omega arith)

pub overflow_add-i : goal.overflow_add-i
overflow_add-i c = let (n, p, is, g) = c.requires in omega (arith, beside-fits g)

pub overflow_add-i-then-bit : goal.overflow_add-i-then-bit
overflow_add-i-then-bit c = let (n, p, is, g) = c.requires in omega (arith, beside-fits g)

pub write_node-requires-then-bit : goal.write_node-requires-then-bit
write_node-requires-then-bit c = let (n, p, is, g) = c.requires in
    beside-writes-two g _ (c.write_node.ensures p is (omega (arith, g.short))) _ (omega arith) (omega arith)

pub overflow_add-result : goal.overflow_add-result
overflow_add-result c = let (n, p, is, g) = c.requires in omega (arith, beside-fits g)

pub returns-then-bit : goal.returns-then-bit
returns-then-bit c = let b = c.if-bit.true in (
  (omega arith, omega arith),
  λ n p x is g q. rw b
      (beside-second g x q (c.write_node.ensures p is (omega (arith, g.short))) (c.write_node-then-bit.ensures (snoc p false) (rw b at (c.child-other.ensures _ p is)) (beside-short g false))),
)

pub write_node-requires-2 : goal.write_node-requires-2
write_node-requires-2 c = let (n, p, is, g) = c.requires in beside-writes g _ (omega arith)

pub overflow_add-i-2 : goal.overflow_add-i-2
overflow_add-i-2 c = let (n, p, is, g) = c.requires in omega (arith, beside-fits g)

pub write_node-requires-3 : goal.write_node-requires-3
write_node-requires-3 c = let (n, p, is, g) = c.requires in
    beside-writes-two g _ (c.write_node-2.ensures p is (omega (arith, g.short))) _ (omega arith) (omega (arith, beside-fits g))

pub overflow_add-result-2 : goal.overflow_add-result-2
overflow_add-result-2 c = let (n, p, is, g) = c.requires in omega (arith, beside-fits g)

pub returns : goal.returns
returns c = let b = c.if-bit.false in (
  (omega arith, omega arith),
  λ n p x is g q. rw b
      (beside_first g x q (c.write_node-2.ensures p is (omega (arith, g.short))) (c.write_node-3.ensures (snoc p true) (rw b at (c.child-other.ensures _ p is)) (beside-short g true))),
)
