-- What `replan` comes to: one outcome; from sound words it leaves sound ones, with the set's new share and limit where it is granted and every list as it was. It is
-- granted exactly by the request's three conditions. Assumes nothing.
use mathlib.Core.Path.{◌≡◌, refl, ◌∙◌}
use mathlib.Core.Bool.{Bool, true, false, not, cond, ◌&&◌}
use mathlib.Core.List.{List, [], ◌∷◌}
use Prim.Native.Nat.{ℕ, ◌<◌}
use lib.Dec.{leb}
use lib.ListN.{length}
use Rattle.nets.specs.Refusals.{first_no}
use Rattle.nets.specs.declared.Refusal.TheVariants.{BadShare}
use Rattle.nets.proofs.Answers.{number-some}
use Rattle.pool_state.specs.States.{State, held, claimed, is_state}
use Rattle.pool_state.specs.Decode.{decode, sound}
use Rattle.pool_state.specs.Rules.{answer_as}
use Rattle.pool_state.specs.Changes.{set_at, list_at, with_set, fits, change_no, planned, plan_rules, Replanned}
use Rattle.pool_state.proofs.Claims.{is_list-list_at, admits-list_at}
use Rattle.pool_state.proofs.Decoded.{decode-state}
use Rattle.pool_state.proofs.Determined.{changed-one}
use Rattle.pool_state.proofs.Judged.{change_no-known}
use Rattle.pool_state.proofs.Leaves.{Leaves, Keeps, after, after-lists, changed-leaves}
use Rattle.pool_state.proofs.Planned.{fits_sum}
use Rattle.pool_state.proofs.WithSet.{fits-is}
use Rattle.std.specs.Prelude.{Result}
use Rattle.nets.specs.declared.Refusal.{Refusal}

pub replan-determined : {w u v : List ℕ} {k x y : ℕ} {r s : (Result ℕ Refusal)} → Replanned w k x y (answer_as r) u → Replanned w k x y (answer_as s) v → (r ≡ s) × (u ≡ v)
replan-determined h g = changed-one h g

-- "the new share is at most the new limit, the limit isn't below the nodes now held, and the sum" over all sets of the larger of share and nodes, "with the new share, is at most
-- the pool's nodes"
abbrev pub may_plan : State → ℕ → ℕ → ℕ → Bool
may_plan S k x y = leb x y && (leb (held (set_at S k)) y && leb (claimed (with_set S k (planned (set_at S k) x y)).sets) S.nodes)

module _ (S : State) (k x y : ℕ) where
  -- no rule applies where the share and the limit fit
  rules-fit : first_no (plan_rules k x y S) ≡ 0 → fits S k (planned (set_at S k) x y) ≡ true
  unfolding plan_rules
  rules-fit e = go (fits S k (planned (set_at S k) x y)) e
    where
      go : (b : Bool) → first_no ((not b, BadShare) ∷ []) ≡ 0 → b ≡ true
      go true q = refl
      go false q = absurd (number-some BadShare q)

  pub plan-keeps : is_state S ≡ true → Keeps S k (plan_rules k x y S) (planned (set_at S k) x y)
  plan-keeps e lt z = (is_list-list_at S k e, fits-is S k (planned (set_at S k) x y) (rules-fit z), refl, refl)

  -- it is granted exactly then, and else gets 13
  pub replan-exactly : is_state S ≡ true → k < length S.sets → change_no S k (plan_rules k x y S) ≡ cond (may_plan S k x y) 0 13
  unfolding plan_rules
  replan-exactly e lt = change_no-known S k (plan_rules k x y S) lt ∙ rw (fits_sum S k (planned (set_at S k) x y) e lt (admits-list_at S k e)) (go (may_plan S k x y))
    where
      go : (b : Bool) → first_no ((not b, BadShare) ∷ []) ≡ cond b 0 13
      go true = refl
      go false = refl

-- the state that it leaves, and every list in it
module _ {w v : List ℕ} {S : State} {k : ℕ} (x y : ℕ) {r : ℕ × ℕ} (d : decode w ≡ sound S) (c : Replanned w k x y r v) where
  pub replan-leaves : Leaves w S k (plan_rules k x y S) (planned (set_at S k) x y) v
  replan-leaves = changed-leaves d (plan-keeps S k x y (decode-state w S d)) c

pub replan-lists : (S : State) (k x y j : ℕ) → list_at (after S k (plan_rules k x y S) (planned (set_at S k) x y)) j ≡ list_at S j
replan-lists S k x y j = after-lists S k (plan_rules k x y S) (planned (set_at S k) x y) refl j
