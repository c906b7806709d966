-- `standing::head` meets its contract. The loop's invariant: what is taken is the beginning of the query, what is left is its rest. Assumes nothing.
use native.Mathlib.Omega.{arith}
use Rattle.nets.proofs.Handing.{hands, hands_end, length-bits_left}
use Rattle.trie_lookup.proofs.Openings.{taken_start, taken-low, taken-some, taken-on, taken-end}
use Rattle.trie_lookup.proofs.standing.head.Goals as goal

pub loop-k-init : goal.loop-k-init
loop-k-init c = taken_start _

pub returns-in-None : goal.returns-in-None
returns-in-None c = let p = c.requires in
    absurd
    (taken-some c.loop-k.invariant (length-bits_left _ p.1) p.0 p.1 c.loop-k-test.true
    (hands_end c.loop-k.left _ (omega (arith, c.loop-k.invariant.long, p.1)) c.next-next.ensures c.in-None.is))

pub push-byte-requires : goal.push-byte-requires
push-byte-requires c = let p = c.requires in
    taken-low c.loop-k.invariant (length-bits_left _ p.1) p.0 p.1 c.loop-k-test.true

pub loop-k-preserved : goal.loop-k-preserved
loop-k-preserved c = let p = c.requires in
    taken-on c.loop-k.invariant (length-bits_left _ p.1) p.0 p.1 c.loop-k-test.true _ _
    (hands _ _ _ _ (omega (arith, c.loop-k.invariant.long, p.1)) c.next-next.ensures c.in-Some.is) c.push-byte.ensures

pub returns : goal.returns
returns c = let p = c.requires in
    taken-end c.loop-k.invariant (length-bits_left _ p.1) p.0 p.1 c.loop-k-test.false
