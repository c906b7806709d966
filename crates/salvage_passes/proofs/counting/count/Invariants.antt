-- `counting::count` meets its contract. The loop's invariant: what is counted is the beginning of what is left, or all. Assumes nothing.
use mathlib.Core.Bool.{cond}
use mathlib.Core.Path.{◌≡◌, refl, sym, ◌∙◌}
use Prim.Native.Nat.{ℕ, suc, ◌-◌, ◌≤◌}
use native.Mathlib.Omega.{arith}
use borrow.Author.Rules.{rules}
use lib.ListN.{length, length-replicate}
use Rattle.salvage_lists.specs.Salvaging.{in_range_in}
use Rattle.salvage_lists.proofs.Counts.{length-in_range_in}
use Rattle.salvage_batch.specs.Buffers.{Kept}
use Rattle.salvage_batch.proofs.Thinnings.{kept_same, kept_trans, kept_more}
use Rattle.salvage_passes.specs.Parts.{Sofar}
use Rattle.salvage_passes.proofs.Batches.{sofar-start, room-local, fewer}
use Rattle.salvage_passes.proofs.counting.count.Given as goal

abbrev pub invariant-loop-t : goal.invariant-loop-t
invariant-loop-t l = (length l.local ≡ 69648) × Sofar l.family (in_range_in l.family l.bytes 0 l.n) l.t × Kept l.family l.t.count l.initial.out l.out × (l.room ≡ 0 → l.out ≡ l.initial.out)

abbrev pub decreases-loop-t : goal.decreases-loop-t
decreases-loop-t l = cond l.t.more (suc l.n - l.t.count) 0
