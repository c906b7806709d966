-- The contract of each changing call is the outcome that a history is made of. Assumes nothing.
use mathlib.Core.Bool.{Bool}
use mathlib.Core.List.{List}
use Prim.Native.Nat.{ℕ}
use Rattle.nets.specs.declared.Net.{Net}
use Rattle.pool_state.specs.Changes.{Replanned, Marked}
use Rattle.change.specs.Calls.{Added, Removed, Reports}
use Rattle.change.specs.Simplified.{Simplifies}
use Rattle.combine.specs.Rules.{Merged, Intersected, Excluded, ExcludedApart}
use Rattle.setfile.specs.Loading.{Loaded}
use Rattle.change_many.specs.Calls.{Poured, RangeAdded}
use Rattle.change_many.specs.declared.Span.{Span}
use Rattle.histories.specs.Calls.{add, remove, simplify, merge, intersect, exclude, exclude_apart, load, pour, add_range, relist, replan, make_public, Outcome}

-- of add and remove, their number and nodes; the report is no part of a history
module _ {w v : List ℕ} {r : ℕ × (ℕ × Bool)} (k : ℕ) (n : Net) where
  pub added : Reports n (Added w k n) r v → Outcome w (relist (add k n)) (r.0, r.1.0) v
  added h = h.changed

  pub removed : Reports n (Removed w k n) r v → Outcome w (relist (remove k n)) (r.0, r.1.0) v
  removed h = h.changed

module _ {w v : List ℕ} {r : ℕ × ℕ} (k : ℕ) where
  pub simplified : Simplifies w k r v → Outcome w (relist (simplify k)) r v
  simplified h = h

  pub merged : (a b : ℕ) → Merged w k a b r v → Outcome w (relist (merge k a b)) r v
  merged a b h = h

  pub intersected : (a b : ℕ) → Intersected w k a b r v → Outcome w (relist (intersect k a b)) r v
  intersected a b h = h

  pub excluded : (a b : ℕ) → Excluded w k a b r v → Outcome w (relist (exclude k a b)) r v
  excluded a b h = h

  pub excluded_apart : (a b : ℕ) → ExcludedApart w k a b r v → Outcome w (relist (exclude_apart k a b)) r v
  excluded_apart a b h = h

  pub loaded : (d : List ℕ) → Loaded w k d r v → Outcome w (relist (load k d)) r v
  loaded d h = h

  pub poured : (x : Bool) (d : List ℕ) → Poured x w k d r v → Outcome w (relist (pour x k d)) r v
  poured x d h = h

  pub range_added : (s : Span) → RangeAdded w k s r v → Outcome w (relist (add_range k s)) r v
  range_added s h = h

  pub replanned : (x y : ℕ) → Replanned w k x y r v → Outcome w (replan k x y) r v
  replanned x y h = h

  pub made_public : Marked w k r v → Outcome w (make_public k) r v
  made_public h = h
