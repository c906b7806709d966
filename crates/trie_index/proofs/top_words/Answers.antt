-- `top_words` meets its contract. The loop's invariant: the words of the keys below 2 k are filled in. Assumes nothing.
use mathlib.Core.Bool.{true, false}
use mathlib.Core.Path.{refl}
use native.Mathlib.Omega.{arith}
use Rattle.trie_index.proofs.Words.{turn-at, filled-start, filled-end, turn_in, turn_small, turn_on}
use Rattle.trie_index.proofs.top_words.Goals as goal

pub loop-k-init : goal.loop-k-init
loop-k-init c = filled-start _ _ _ _ c.begin.ensures

pub under-x-requires : goal.under-x-requires
under-x-requires c = let p = c.requires in
    let l = c.loop-k in
    (p.0, turn_in (turn-at l.auto.k c.loop-k-test.true l.invariant) refl p.1)

pub onward-requires : goal.onward-requires
onward-requires c = let p = c.requires in
    let l = c.loop-k in
    turn_small (turn-at l.auto.k c.loop-k-test.true l.invariant) refl c.under-x.ensures p.1 p.0.few false c.turn.ensures

pub onward-requires-in-loop-k : goal.onward-requires-in-loop-k
onward-requires-in-loop-k c = let p = c.requires in
    let l = c.loop-k in
    turn_small (turn-at l.auto.k c.loop-k-test.true l.invariant) refl c.under-x.ensures p.1 p.0.few true c.turn-in-loop-k.ensures

pub loop-k-preserved : goal.loop-k-preserved
loop-k-preserved c = let l = c.loop-k in
    turn_on (turn-at l.auto.k c.loop-k-test.true l.invariant) refl c.under-x.ensures c.turn.ensures c.onward.ensures c.turn-in-loop-k.ensures
    c.onward-in-loop-k.ensures

pub returns : goal.returns
returns c = filled-end c.loop-k.invariant (omega (arith, c.loop-k-test.false))
