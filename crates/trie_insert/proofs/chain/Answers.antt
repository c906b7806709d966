-- `chain` meets its contract. The loop's invariant: what is still to be written completes the chain. Assumes nothing.
use mathlib.Core.Path.{◌∙◌}
use native.Mathlib.Omega.{arith}
use Rattle.nets.proofs.Handing.{hands_end, Hands, hands}
use Rattle.nodes.proofs.Chains.{bool_byte-le, chain-step, chain-end}
use Rattle.trie_insert.proofs.chain.Goals as goal

more : (c : goal.After-slice_known-in-Some-1) → Hands c.loop-bit.p c.in-Some.bit c.in-Some.rest
more c = hands _ _ _ _ (omega arith) c.next.ensures c.in-Some.is

pub returns : goal.returns
returns c = chain-end _ _ _ (hands_end _ _ (omega arith) c.next.ensures c.in_default.is) c.store-2.ensures ∙ c.loop-bit.invariant.1.1.1.1

pub overflow_add-bit : goal.overflow_add-bit
overflow_add-bit c = omega (arith, bool_byte-le c.in-Some.bit)

pub store-requires : goal.store-requires
store-requires c = omega (arith, bool_byte-le c.in-Some.bit)

pub loop-bit-smaller : goal.loop-bit-smaller
loop-bit-smaller c = omega (arith, (more c).len)

pub loop-bit-preserved : goal.loop-bit-preserved
loop-bit-preserved c = let s = c.args in
    let l = c.loop-bit in
    let h = more c in
    (omega arith, (omega arith, (omega arith, (omega arith, chain-step _ _ s.b l.k _ _ (omega arith) c.store.ensures ∙ rw h.bits at l.invariant.1.1.1.1))))
