-- The proof of the cycle of calls {insert}. The measure is what is left of the path. Assumes nothing.
use mathlib.Core.Path.{refl, sym}
use mathlib.Core.Bool.{true, false}
use native.Mathlib.Omega.{arith}
use Rattle.nets.proofs.Handing.{hands_end}
use Rattle.trie_insert.proofs.Insertion.{handed, empty-end, insertable-side, inserted-leaf, inserted-side, inner-fit, inserted-fit}
use Rattle.trie_insert.proofs.+insert.Goals as goal

pub leaf-requires : goal.leaf-requires
leaf-requires τ c = rw (hands_end c.args.s _ c.requires.0 c.next-next.ensures c.in-None.is) at c.requires.1

pub look-v-requires : goal.look-v-requires
look-v-requires τ c = let h = c.requires.1 in (h.t, h.rest, _, h.stands)

pub grow-requires : goal.grow-requires
grow-requires τ c = (c.requires.0, rw (sym (empty-end (rw c.in-Nothing.is at c.look-v.ensures) c.requires.1.stands)) at c.requires.1)

pub insert-z-requires : goal.insert-z-requires
insert-z-requires τ c = let h = handed c.requires.0 c.next-next.ensures c.in-Some.is c.if-bit.true in
    (omega (arith, c.decreases, h.len), (omega (arith, c.requires.0, h.len), insertable-side (rw c.in-Inner.is at c.look-v.ensures) true (rw h.bits at c.requires.1)))

pub links-requires : goal.links-requires
links-requires τ c = omega (arith, inner-fit (rw c.in-Inner.is at c.look-v.ensures) c.requires.1.stands)

pub returns-then-bit : goal.returns-then-bit
returns-then-bit τ c = rw (handed c.requires.0 c.next-next.ensures c.in-Some.is c.if-bit.true).bits (inserted-side (rw c.in-Inner.is at c.look-v.ensures) true _ _ _ _ _ _ c.insert-z.ensures refl c.links.ensures)

pub overflow_add-i : goal.overflow_add-i
overflow_add-i τ c = omega (arith, inner-fit (rw c.in-Inner.is at c.look-v.ensures) c.requires.1.stands)

pub insert-y-requires : goal.insert-y-requires
insert-y-requires τ c = let h = handed c.requires.0 c.next-next.ensures c.in-Some.is c.if-bit.false in
    (omega (arith, c.decreases, h.len), (omega (arith, c.requires.0, h.len), insertable-side (rw c.in-Inner.is at c.look-v.ensures) false (rw h.bits at c.requires.1)))

pub overflow_sub-z : goal.overflow_sub-z
overflow_sub-z τ c = omega (arith, inner-fit (rw c.in-Inner.is at c.look-v.ensures) c.requires.1.stands)

pub overflow_add-z : goal.overflow_add-z
overflow_add-z τ c = omega (arith, inner-fit (rw c.in-Inner.is at c.look-v.ensures) c.requires.1.stands, inserted-fit (rw c.in-Inner.is at c.look-v.ensures) false _ _ _ (omega (arith, (handed c.requires.0 c.next-next.ensures c.in-Some.is c.if-bit.false).len, c.requires.0)) c.requires.1.stands c.insert-y.ensures)

pub links-requires-in-Inner : goal.links-requires-in-Inner
links-requires-in-Inner τ c = omega (arith, inner-fit (rw c.in-Inner.is at c.look-v.ensures) c.requires.1.stands, inserted-fit (rw c.in-Inner.is at c.look-v.ensures) false _ _ _ (omega (arith, (handed c.requires.0 c.next-next.ensures c.in-Some.is c.if-bit.false).len, c.requires.0)) c.requires.1.stands c.insert-y.ensures)

pub returns-in-None : goal.returns-in-None
returns-in-None τ c = rw (hands_end c.args.s _ c.requires.0 c.next-next.ensures c.in-None.is) c.leaf.ensures

pub returns-in-Nothing : goal.returns-in-Nothing
returns-in-Nothing τ c = rw (sym (empty-end (rw c.in-Nothing.is at c.look-v.ensures) c.requires.1.stands)) c.grow.ensures

pub returns-in-Leaf : goal.returns-in-Leaf
returns-in-Leaf τ c = rw (handed c.requires.0 c.next-next.ensures c.in-Some.is refl).bits (inserted-leaf (rw c.in-Leaf.is at c.look-v.ensures) _ _ _)

pub returns-else-bit : goal.returns-else-bit
returns-else-bit τ c = rw (handed c.requires.0 c.next-next.ensures c.in-Some.is c.if-bit.false).bits (inserted-side (rw c.in-Inner.is at c.look-v.ensures) false _ _ _ _ _ _ c.insert-y.ensures refl c.links-in-Inner.ensures)
