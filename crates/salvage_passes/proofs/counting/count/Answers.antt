-- `counting::count` meets its contract. The loop's invariant: what is counted is the beginning of what is left, or all. Assumes nothing.
use mathlib.Core.Path.{refl, sym, ◌∙◌}
use Prim.Native.Nat.{ℕ, ◌-◌, ◌≤◌}
use native.Mathlib.Omega.{arith}
use lib.ListN.{length, length-replicate}
use Rattle.salvage_lists.specs.Salvaging.{in_range_in}
use Rattle.salvage_lists.proofs.Counts.{length-in_range_in}
use Rattle.salvage_batch.proofs.Thinnings.{kept_same, kept_trans, kept_more}
use Rattle.salvage_passes.proofs.Batches.{sofar-start, room-local, fewer}
use Rattle.salvage_passes.proofs.counting.count.Goals as goal

few : (c : goal.After-slice_known-in-loop-t-1) → let a = c.args in length (in_range_in a.family a.bytes.now 0 a.n) ≤ a.n
few c = omega (arith, length-in_range_in c.args.family c.args.bytes.now 0 c.args.n)

pub loop-t-init : goal.loop-t-init
loop-t-init c = (length-replicate {A = ℕ} 69648 0, sofar-start _ _ _ c.requires.0 refl refl refl, kept_same _ _ _, λ z. refl)

pub slice_bounds-count_more-end : goal.slice_bounds-count_more-end
slice_bounds-count_more-end c = sym c.loop-t.invariant.0

pub count_more-t-requires : goal.count_more-t-requires
count_more-t-requires c = let p = c.requires in
    record { n_le_most_entries = (p.1, p.2, room-local _ _ p.0 c.loop-t.invariant.0, λ h. omega (arith, p.3 h, c.loop-t.invariant.2.long)); sofar = (c.loop-t.invariant.1, c.loop-t-test.true) }

pub loop-t-smaller : goal.loop-t-smaller
loop-t-smaller c = fewer _ c.loop-t-test.true c.loop-t.invariant.1 c.count_more-t.ensures.onward (few c)

pub loop-t-preserved : goal.loop-t-preserved
loop-t-preserved c = let e = c.count_more-t.ensures in
    let i = c.loop-t.invariant in
    (e.local_len_unchanged ∙ i.0, e.onward.next, kept_more e.onward.least (kept_trans i.2 e.kept.0), λ z. e.kept.1 z ∙ i.3 z)

pub shape_of-out : goal.shape_of-out
shape_of-out c = c.loop-t.invariant.2.long

pub returns : goal.returns
returns c = let i = c.loop-t.invariant in
    record { list = i.1.list; whole = i.1.whole c.loop-t-test.false; long = i.1.long; kept = i.2; same = i.3 }
