-- `round` meets its contract. The loop's invariant: the walks have gone on, and the row names walks. Assumes nothing.
use mathlib.Core.Bool.{Bool, true, false, cond}
use mathlib.Core.Path.{◌≡◌}
use Prim.Native.Nat.{ℕ, ◌+◌, ◌-◌, ◌<◌}
use native.Mathlib.Omega.{arith}
use Rattle.trie_lanes.proofs.LaneRows.{all_stay, all_moved}
use Rattle.trie_lanes.proofs.round.Goals as goal

nearer : (on : Bool) (k j m i : ℕ) → m ≡ cond on k (k - 1) → i ≡ cond on (j + 1) j → j < k → m - i < k - j
nearer true k j m i e f lt = omega arith
nearer false k j m i e f lt = omega arith

pub loop-j-init : goal.loop-j-init
loop-j-init c = let h = c.requires in (all_stay _ _ _ _ _ h.1, h.2)

pub bounds-live-j : goal.bounds-live-j
bounds-live-j c = let i = c.loop-j.invariant.1 in omega (arith, i.wide, i.few, c.loop-j-test.true)

pub visit-on-requires : goal.visit-on-requires
visit-on-requires c = let i = c.loop-j.invariant in
    let h = c.requires in
    let lt = i.1.each _ c.loop-j-test.true in
    (h.0, omega (arith, lt, h.1.few), i.0.wide, (i.0.each _ lt).on)

pub leave-k-requires : goal.leave-k-requires
leave-k-requires c = (c.loop-j.invariant.1, c.loop-j-test.true)

pub ahead-j-requires : goal.ahead-j-requires
ahead-j-requires c = omega (arith, c.loop-j-test.true, c.loop-j.invariant.1.few)

pub loop-j-smaller : goal.loop-j-smaller
loop-j-smaller c = nearer c.visit-on.result _ _ _ _ c.leave-k.ensures.1 c.ahead-j.ensures c.loop-j-test.true

pub loop-j-preserved : goal.loop-j-preserved
loop-j-preserved c = (all_moved _ _ _ _ _ _ _ _ c.loop-j.invariant.0 c.visit-on.ensures, c.leave-k.ensures.0)

pub returns : goal.returns
returns c = c.loop-j.invariant
