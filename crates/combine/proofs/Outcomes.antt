-- What the calls come to. Each has one outcome; from a sound pool a combination leaves a sound one, of the state by its rule (`RelistLeaves`); where it is granted, the destination
-- was empty. Assumes nothing.
use mathlib.Core.Bool.{true, false, not, true≢false}
use mathlib.Core.List.{List, [], ◌∷◌, ◌++◌}
use mathlib.Core.Path.{◌≡◌, refl}
use Prim.Native.Nat.{ℕ}
use Rattle.nets.specs.Bits.{Bits}
use Rattle.nets.specs.Lists.{is_list, merge_l, intersect_l, difference_l, exclude_l}
use Rattle.nets.specs.Networks.{width}
use Rattle.nets.specs.Refusals.{first_no}
use Rattle.nets.proofs.Refused.{first_no-zero, first_no-both}
use Rattle.nets.proofs.Combining.{is_list-merge, is_list-intersect}
use Rattle.nets.proofs.Laws.{is_list-difference, is_list-exclude}
use Rattle.nets.proofs.TrieOf.{is_list-within}
use Rattle.pool_state.specs.States.{State}
use Rattle.pool_state.specs.Decode.{sound, decode}
use Rattle.pool_state.specs.Rules.{answer_as}
use Rattle.pool_state.specs.Changes.{list_at, grant_rules, relist_no, is_empty}
use Rattle.pool_state.proofs.Claims.{is_list-list_at}
use Rattle.pool_state.proofs.Decoded.{decode-state}
use Rattle.pool_state.proofs.Judged.{change_no-zero}
use Rattle.pool_state.proofs.Determined.{changed-one}
use Rattle.pool_state.proofs.Leaves.{RelistLeaves, relist-leaves}
use Rattle.combine_sources.specs.Rules.{combine_rules, Combined}
use Rattle.combine.specs.Rules.{Merged, Intersected, Excluded, ExcludedApart}
use Rattle.std.specs.Prelude.{Result}
use Rattle.nets.specs.declared.Refusal.{Refusal}

-- One outcome.
module _ (w : List ℕ) (to first second : ℕ) {r s : (Result ℕ Refusal)} {u v : List ℕ} where
  pub merge-determined : Merged w to first second (answer_as r) u → Merged w to first second (answer_as s) v → (r ≡ s) × (u ≡ v)
  merge-determined h g = changed-one h g

  pub intersect-determined : Intersected w to first second (answer_as r) u → Intersected w to first second (answer_as s) v → (r ≡ s) × (u ≡ v)
  intersect-determined h g = changed-one h g

  pub exclude-determined : Excluded w to first second (answer_as r) u → Excluded w to first second (answer_as s) v → (r ≡ s) × (u ≡ v)
  exclude-determined h g = changed-one h g

  pub exclude-apart-determined : ExcludedApart w to first second (answer_as r) u → ExcludedApart w to first second (answer_as s) v → (r ≡ s) × (u ≡ v)
  exclude-apart-determined h g = changed-one h g

-- What is left of a sound pool, where an operation makes lists of lists.
abbrev Keeps : (List Bits → List Bits → List Bits) → Type 0
Keeps L = (w : ℕ) (l m : List Bits) → is_list w l ≡ true → is_list w m ≡ true → is_list w (L l m) ≡ true

module _ {w v : List ℕ} {S : State} {to : ℕ} {r : ℕ × ℕ} (first second : ℕ) (d : decode w ≡ sound S) where
  combined-leaves : (L : List Bits → List Bits → List Bits) → Keeps L → Combined L w to first second r v
      → RelistLeaves w S to (combine_rules to first second S) (L (list_at S first) (list_at S second)) r v
  combined-leaves L keeps c =
      let e = decode-state w S d in
      relist-leaves (combine_rules to first second) (λ T. L (list_at T first) (list_at T second)) d (λ z. keeps (width S.family) (list_at S first) (list_at S second) (is_list-list_at S first e) (is_list-list_at S second e)) c

  pub merge-leaves : Merged w to first second r v → RelistLeaves w S to (combine_rules to first second S) (merge_l (list_at S first) (list_at S second)) r v
  merge-leaves = combined-leaves merge_l (λ w l m h k. is_list-merge w l m (is_list-within w l h) (is_list-within w m k))

  pub intersect-leaves : Intersected w to first second r v → RelistLeaves w S to (combine_rules to first second S) (intersect_l (list_at S first) (list_at S second)) r v
  intersect-leaves = combined-leaves intersect_l (λ w l m h k. is_list-intersect w l m (is_list-within w l h) (is_list-within w m k))

  pub exclude-leaves : Excluded w to first second r v → RelistLeaves w S to (combine_rules to first second S) (difference_l (list_at S first) (list_at S second)) r v
  exclude-leaves = combined-leaves difference_l is_list-difference

  pub exclude-apart-leaves : ExcludedApart w to first second r v → RelistLeaves w S to (combine_rules to first second S) (exclude_l (list_at S first) (list_at S second)) r v
  exclude-apart-leaves = combined-leaves exclude_l is_list-exclude

-- A source that is the destination reads as empty: where a call is granted, that is.
is_empty-is : (l : List Bits) → not (is_empty l) ≡ false → l ≡ []
is_empty-is [] e = refl
is_empty-is (p ∷ l) e = absurd (true≢false e)

pub combine_rules-empty : (to first second : ℕ) (S : State) → first_no (combine_rules to first second S) ≡ 0 → list_at S to ≡ []
unfolding combine_rules
combine_rules-empty to first second S e = is_empty-is (list_at S to) (first_no-zero (combine_rules to first second S) e).1.1.0

pub granted-empty : (to first second : ℕ) (S : State) (l : List Bits) → relist_no S to (combine_rules to first second S) l ≡ 0 → list_at S to ≡ []
granted-empty to first second S l z =
    let a = combine_rules to first second S in
    combine_rules-empty to first second S (first_no-both a (grant_rules S to l) (change_no-zero S to (a ++ grant_rules S to l) z).1).0

-- A clone: what excluding an empty set leaves, where the members stay apart.
pub exclude-empty : (l m : List Bits) → m ≡ [] → exclude_l l m ≡ l
unfolding exclude_l
exclude-empty l m e = rw e
