-- `insert_size` meets its contract. The loop's invariant: what is counted of the part completes the whole. Assumes nothing.
use mathlib.Core.Path.{refl, sym}
use mathlib.Core.Bool.{true, false}
use native.Mathlib.Omega.{arith}
use Rattle.nets.proofs.Handing.{length-bits_left, hands_end}
use Rattle.nodes.proofs.Segments.{segment-fit}
use Rattle.trie_insert.proofs.Insertion.{handed, inner-fit}
use Rattle.trie_insert.proofs.Counting.{part-all, part-next, sized-end, sized-empty, sized-none, sized-leaf}
use Rattle.trie_insert.proofs.insert_size.Goals as goal

pub loop-bit-init : goal.loop-bit-init
loop-bit-init c = (c.requires.0, part-all _ c.requires.1)

pub overflow_add-result : goal.overflow_add-result
overflow_add-result c = let g = c.requires.1.stands in omega (arith, segment-fit g, g.few)

pub returns : goal.returns
returns c = let l = c.loop-bit in sized-end l.invariant.1 (hands_end l.p _ l.invariant.0 c.next.ensures c.in_default.is)

pub look-v-requires : goal.look-v-requires
look-v-requires c = let h = c.loop-bit.invariant.1.held in (h.t, h.rest, h.u, h.stands)

pub overflow_add-result-2 : goal.overflow_add-result-2
overflow_add-result-2 c = let g = c.requires.1.stands in
    omega (arith, segment-fit g, g.few, c.loop-bit.invariant.0)

pub returns-in-Nothing : goal.returns-in-Nothing
returns-in-Nothing c = let l = c.loop-bit in
    sized-none l.invariant.1 _ (rw c.in-Nothing.is at c.look-v.ensures) (sym (length-bits_left l.p l.invariant.0))

pub returns-in-Leaf : goal.returns-in-Leaf
returns-in-Leaf c = sized-leaf c.loop-bit.invariant.1 _ _ (handed c.loop-bit.invariant.0 c.next.ensures c.in-Some.is refl).bits (rw c.in-Leaf.is at c.look-v.ensures)

pub overflow_add-result-then-m-to-2 : goal.overflow_add-result-then-m-to-2
overflow_add-result-then-m-to-2 c = let g = c.requires.1.stands in
    omega (arith, segment-fit g, g.few, (handed c.loop-bit.invariant.0 c.next.ensures c.in-Some.is c.if-bit.true).len, c.loop-bit.invariant.0)

pub returns-then-m-to : goal.returns-then-m-to
returns-then-m-to c = let h = part-next true (handed c.loop-bit.invariant.0 c.next.ensures c.in-Some.is c.if-bit.true) c.loop-bit.invariant (rw c.in-Inner.is at c.look-v.ensures) in
    sized-empty h.1 _ c.if-m-to.true (sym (length-bits_left c.in-Some.rest h.0))

pub loop-bit-smaller-then-bit : goal.loop-bit-smaller-then-bit
loop-bit-smaller-then-bit c = omega (arith, (handed c.loop-bit.invariant.0 c.next.ensures c.in-Some.is c.if-bit.true).len)

pub loop-bit-preserved-then-bit : goal.loop-bit-preserved-then-bit
loop-bit-preserved-then-bit c = part-next true (handed c.loop-bit.invariant.0 c.next.ensures c.in-Some.is c.if-bit.true) c.loop-bit.invariant (rw c.in-Inner.is at c.look-v.ensures)

pub overflow_add-from : goal.overflow_add-from
overflow_add-from c = omega (arith, inner-fit (rw c.in-Inner.is at c.look-v.ensures) c.loop-bit.invariant.1.held.stands)

pub loop-bit-smaller : goal.loop-bit-smaller
loop-bit-smaller c = omega (arith, (handed c.loop-bit.invariant.0 c.next.ensures c.in-Some.is c.if-bit.false).len)

pub loop-bit-preserved : goal.loop-bit-preserved
loop-bit-preserved c = part-next false (handed c.loop-bit.invariant.0 c.next.ensures c.in-Some.is c.if-bit.false) c.loop-bit.invariant (rw c.in-Inner.is at c.look-v.ensures)
