-- What `make_public` comes to: one outcome; from sound words it leaves sound ones, with the set public-only where it is granted and every list as it was. It is granted
-- exactly where the set is empty. Assumes nothing.
use mathlib.Core.Path.{◌≡◌, refl, ap, ◌∙◌}
use mathlib.Core.Bool.{Bool, true, false, not, cond}
use mathlib.Core.List.{List, [], ◌∷◌}
use Prim.Native.Nat.{ℕ, ◌<◌}
use lib.ListN.{length}
use Rattle.nets.specs.Bits.{Bits}
use Rattle.nets.specs.Refusals.{first_no}
use Rattle.nets.specs.declared.Refusal.TheVariants.{Occupied}
use Rattle.nets.proofs.Answers.{number-some}
use Rattle.inner_nets.specs.Inner.{is_public}
use Rattle.inner_nets.proofs.Public.{is_public-nil}
use Rattle.pool_state.specs.States.{State, is_state}
use Rattle.pool_state.specs.Decode.{decode, sound}
use Rattle.pool_state.specs.Rules.{answer_as}
use Rattle.pool_state.specs.Changes.{set_at, list_at, is_empty, change_no, marked, mark_rules, Marked}
use Rattle.pool_state.proofs.Claims.{is_list-list_at, share-limit, held-limit}
use Rattle.pool_state.proofs.Decoded.{decode-state}
use Rattle.pool_state.proofs.Determined.{changed-one}
use Rattle.pool_state.proofs.Judged.{change_no-known}
use Rattle.pool_state.proofs.Leaves.{Leaves, Keeps, after, after-lists, changed-leaves}
use Rattle.pool_state.proofs.WithSet.{claim-room_of}
use Rattle.std.specs.Prelude.{Result}
use Rattle.nets.specs.declared.Refusal.{Refusal}

pub make-public-determined : {w u v : List ℕ} {k : ℕ} {r s : (Result ℕ Refusal)} → Marked w k (answer_as r) u → Marked w k (answer_as s) v → (r ≡ s) × (u ≡ v)
make-public-determined h g = changed-one h g

module _ (S : State) (k : ℕ) where
  rules-empty : first_no (mark_rules k S) ≡ 0 → list_at S k ≡ []
  unfolding mark_rules
  rules-empty e = go (list_at S k) e
    where
      go : (l : List Bits) → first_no ((not (is_empty l), Occupied) ∷ []) ≡ 0 → l ≡ []
      go [] q = refl
      go (p ∷ l) q = absurd (number-some Occupied q)

  pub mark-keeps : is_state S ≡ true → Keeps S k (mark_rules k S) (marked (set_at S k))
  mark-keeps e lt z = (
    is_list-list_at S k e,
    record {
      share = share-limit S k e;
      held = held-limit S k e;
      public = ap (is_public S.family) (rules-empty z) ∙ is_public-nil S.family;
      room = claim-room_of S k e lt;
    },
    refl,
    refl,
  )

  -- it is granted exactly where the set is empty, and else gets 8
  pub make-public-exactly : k < length S.sets → change_no S k (mark_rules k S) ≡ cond (is_empty (list_at S k)) 0 8
  unfolding mark_rules
  make-public-exactly lt = change_no-known S k (mark_rules k S) lt ∙ go (is_empty (list_at S k))
    where
      go : (b : Bool) → first_no ((not b, Occupied) ∷ []) ≡ cond b 0 8
      go true = refl
      go false = refl

  -- every list in the state that it leaves
  pub make-public-lists : (j : ℕ) → list_at (after S k (mark_rules k S) (marked (set_at S k))) j ≡ list_at S j
  make-public-lists j = after-lists S k (mark_rules k S) (marked (set_at S k)) refl j

-- the state that it leaves
module _ {w v : List ℕ} {S : State} {k : ℕ} {r : ℕ × ℕ} (d : decode w ≡ sound S) (c : Marked w k r v) where
  pub make-public-leaves : Leaves w S k (mark_rules k S) (marked (set_at S k)) v
  make-public-leaves = changed-leaves d (mark-keeps S k (decode-state w S d)) c
