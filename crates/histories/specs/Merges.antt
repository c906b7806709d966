-- Sets merged by the calls of a history, whatever other calls stand between. A merge is granted only into an empty set.
--
--   MergedSince cs ds ss x g    the calls ds, answered ss, begin with cs. Granted ones among the others have merged into set x the sets of the grouping g, as
--                               they were after cs, in its order. A call that writes another set than x, replans x, makes x public-only, or is refused, may stand anywhere
use Rattle.std.specs.Prelude.{List, ◌∷◌, ◌≡◌, ℕ}
use Rattle.nets.specs.Groupings.{Grouping, set, both}
use Rattle.histories.specs.Calls.{Call, merge, relist, replan, make_public, target}

pub data MergedSince (cs : List Call) : List Call → List (ℕ × ℕ) → ℕ → Grouping → Type 0 where
  since : {ss : List (ℕ × ℕ)} {x : ℕ} → MergedSince cs cs ss x (set x)
  merged : {ds : List Call} {ss : List (ℕ × ℕ)} {x a b n : ℕ} {g h : Grouping}
      → MergedSince cs ds ss a g → MergedSince cs ds ss b h → MergedSince cs (relist (merge x a b) ∷ ds) ((0, n) ∷ ss) x (both g h)
  other : {ds : List Call} {ss : List (ℕ × ℕ)} {x : ℕ} {g : Grouping} {c : Call} {r : ℕ × ℕ}
      → MergedSince cs ds ss x g → (target c ≡ x → ⊥) → MergedSince cs (c ∷ ds) (r ∷ ss) x g
  replanned : {ds : List Call} {ss : List (ℕ × ℕ)} {x a b : ℕ} {g : Grouping} {r : ℕ × ℕ}
      → MergedSince cs ds ss x g → MergedSince cs (replan x a b ∷ ds) (r ∷ ss) x g
  made_public : {ds : List Call} {ss : List (ℕ × ℕ)} {x : ℕ} {g : Grouping} {r : ℕ × ℕ} → MergedSince cs ds ss x g → MergedSince cs (make_public x ∷ ds) (r ∷ ss) x g
  refused : {ds : List Call} {ss : List (ℕ × ℕ)} {x : ℕ} {g : Grouping} {c : Call} {r : ℕ × ℕ}
      → MergedSince cs ds ss x g → (r.0 ≡ 0 → ⊥) → MergedSince cs (c ∷ ds) (r ∷ ss) x g
