-- `removing::chain` meets its contract. The loop's invariant: what is still to be written completes the chain. Assumes nothing.
use mathlib.Core.Path.{refl, ap, sym, ◌∙◌}
use native.Mathlib.Omega.{arith}
use Rattle.nets.specs.Networks.{next_as}
use Rattle.trie_remove.proofs.Splices.{chain-turn, chain-less, chain-end, chain-room}
use Rattle.trie_remove.proofs.chain.Goals as goal

pub loop-bit-init : goal.loop-bit-init
loop-bit-init c = let p = c.requires in record { one = p.0.0; within = omega arith; few = p.1.0; long = refl; rest = refl }

pub returns : goal.returns
returns c = chain-end c.loop-bit.invariant (sym c.next.ensures ∙ ap next_as c.in_default.is)

pub overflow_cast-later : goal.overflow_cast-later
overflow_cast-later c = omega (arith, chain-less c.loop-bit.invariant _ _ (sym c.next.ensures ∙ ap next_as c.in-Some.is))

pub overflow_mul-later : goal.overflow_mul-later
overflow_mul-later c = omega (arith, chain-less c.loop-bit.invariant _ _ (sym c.next.ensures ∙ ap next_as c.in-Some.is))

pub halve-k-requires : goal.halve-k-requires
halve-k-requires c = let p = c.requires in
    chain-room c.loop-bit.invariant _ _ (sym c.next.ensures ∙ ap next_as c.in-Some.is) p.0.0 p.0.1 p.1.0 p.1.1

pub loop-bit-smaller : goal.loop-bit-smaller
loop-bit-smaller c = omega (arith, chain-less c.loop-bit.invariant _ _ (sym c.next.ensures ∙ ap next_as c.in-Some.is))

pub loop-bit-preserved : goal.loop-bit-preserved
loop-bit-preserved c = let h = c.halve-k in
    chain-turn c.loop-bit.invariant _ _ _ _ (sym c.next.ensures ∙ ap next_as c.in-Some.is) h.auto.w h.ensures.0 h.ensures.1
