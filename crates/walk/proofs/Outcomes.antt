-- The outcomes of nth and last, and those of a walk: each has one. On a sound pool the places of the list give its networks, in order, and behind them there is none; the last of them is the list's last.
-- Assumes nothing.
use mathlib.Core.Path.{◌≡◌, refl, sym, ◌∙◌}
use mathlib.Core.Bool.{Bool}
use mathlib.Core.List.{List, [], ◌∷◌, ◌++◌}
use Prim.Native.Nat.{ℕ, zero, suc, ◌≤◌, ◌<◌}
use native.Mathlib.Omega.{arith}
use denote.Ref.{Bor}
use lib.ListN.{length, get_or}
use borrow.Author.Tests.{le-leb, lt-leb}
use Rattle.nets.specs.Bits.{Bits}
use Rattle.nets.specs.Lists.{Found, found, missing}
use Rattle.nets.specs.Networks.{net_from}
use Rattle.nets.specs.declared.Refusal.TheVariants.{Damaged, NoSet}
use Rattle.pool_state.specs.States.{State}
use Rattle.pool_state.specs.Decode.{damaged, sound, decode}
use Rattle.pool_state.specs.Rules.{answer_on}
use Rattle.pool_state.specs.Changes.{list_at}
use Rattle.listing.specs.Calls.{found_as, follower_as}
use Rattle.listing.proofs.Outcomes.{follower_as-one}
use Rattle.walk.specs.Walks.{walk_start, walk_on}
use Rattle.walk.specs.Places.{nth_l, last_l, place_rule, nth_rule, last_rule}
use Rattle.walk.specs.declared.walking.Walk.{Walk}
use Rattle.std.specs.Prelude.{Result, Option, Ok, Err, Some, None}
use Rattle.nets.specs.declared.Net.{Net}
use Rattle.nets.specs.declared.Refusal.{Refusal}

-- A walk is determined: the one that is made, and what a step says and leaves.
pub start-determined : (p : Bor (List ℕ)) (k : ℕ) (w v : Walk) → w ≡ walk_start p k → v ≡ walk_start p k → w ≡ v
start-determined p k w v e f = e ∙ sym f

abbrev Steps : Walk → Bool → Walk → Type 0
Steps w r v = (r ≡ (walk_on w).spot.more) × (v ≡ walk_on w)

pub next-determined : (w v x : Walk) (r s : Bool) → Steps w r v → Steps w s x → (r ≡ s) × (v ≡ x)
next-determined w v x r s e f = (e.0 ∙ sym f.0, e.1 ∙ sym f.1)

-- What a list has at a place, and at its end.
nth_l-at : (l : List Bits) (i : ℕ) → i < length l → nth_l l i ≡ found (get_or l i [])
unfolding nth_l
nth_l-at [] i h = absurd (omega arith)
nth_l-at (p ∷ l) zero h = refl
nth_l-at (p ∷ l) (suc i) h = nth_l-at l i (omega arith)

nth_l-past : (l : List Bits) (i : ℕ) → length l ≤ i → nth_l l i ≡ missing
unfolding nth_l
nth_l-past [] i h = refl
nth_l-past (p ∷ l) zero h = absurd (omega arith)
nth_l-past (p ∷ l) (suc i) h = nth_l-past l i (omega arith)

last_l-snoc : (l : List Bits) (p : Bits) → last_l (l ++ (p ∷ [])) ≡ found p
unfolding last_l
last_l-snoc [] p = refl
last_l-snoc (q ∷ []) p = refl
last_l-snoc (q ∷ x ∷ l) p = last_l-snoc (x ∷ l) p

-- The answers of nth and last, by what f finds in the list.
place-determined : (f : List Bits → Found) (w : List ℕ) (k : ℕ) (r s : Result (Option Net) Refusal) → follower_as r ≡ place_rule f (decode w) k → follower_as s ≡ place_rule f (decode w) k → r ≡ s
place-determined f w k r s e g = follower_as-one r s (e ∙ sym g)

module _ (f : List Bits → Found) (w : List ℕ) (k : ℕ) (r : Result (Option Net) Refusal) (h : follower_as r ≡ place_rule f (decode w) k) where
  place-damaged : decode w ≡ damaged → r ≡ Err Damaged
  unfolding place_rule answer_on
  place-damaged d = follower_as-one r (Err Damaged) (h ∙ rw d)

  module _ (S : State) (d : decode w ≡ sound S) where
    place-noset : length S.sets ≤ k → r ≡ Err NoSet
    unfolding place_rule answer_on
    place-noset le = follower_as-one r (Err NoSet) (h ∙ rw (d, le-leb (length S.sets) k le))

    module _ (lt : k < length S.sets) where
      granted : follower_as r ≡ (0, found_as S.family (f (list_at S k)))
      unfolding place_rule answer_on
      granted = h ∙ rw (d, lt-leb (length S.sets) k lt)

      place_found : (p : Bits) → f (list_at S k) ≡ found p → r ≡ Ok (Some (net_from S.family p))
      place_found p e = follower_as-one r (Ok (Some (net_from S.family p))) (granted ∙ rw e)

      place_none : f (list_at S k) ≡ missing → r ≡ (Ok None)
      place_none e = follower_as-one r (Ok None) (granted ∙ rw e)

pub nth-determined : (w : List ℕ) (k i : ℕ) (r s : Result (Option Net) Refusal) → follower_as r ≡ nth_rule (decode w) k i → follower_as s ≡ nth_rule (decode w) k i → r ≡ s
nth-determined w k i = place-determined (λ l. nth_l l i) w k

module _ (w : List ℕ) (k i : ℕ) (r : Result (Option Net) Refusal) (h : follower_as r ≡ nth_rule (decode w) k i) where
  pub nth-damaged : decode w ≡ damaged → r ≡ Err Damaged
  nth-damaged = place-damaged (λ l. nth_l l i) w k r h

  module _ (S : State) (d : decode w ≡ sound S) where
    pub nth-noset : length S.sets ≤ k → r ≡ Err NoSet
    nth-noset = place-noset (λ l. nth_l l i) w k r h S d

    module _ (lt : k < length S.sets) where
      pub nth-is : i < length (list_at S k) → r ≡ Ok (Some (net_from S.family (get_or (list_at S k) i [])))
      nth-is less = place_found (λ l. nth_l l i) w k r h S d lt (get_or (list_at S k) i []) (nth_l-at (list_at S k) i less)

      pub nth-none : length (list_at S k) ≤ i → r ≡ (Ok None)
      nth-none le = place_none (λ l. nth_l l i) w k r h S d lt (nth_l-past (list_at S k) i le)

pub last-determined : (w : List ℕ) (k : ℕ) (r s : Result (Option Net) Refusal) → follower_as r ≡ last_rule (decode w) k → follower_as s ≡ last_rule (decode w) k → r ≡ s
last-determined = place-determined last_l

module _ (w : List ℕ) (k : ℕ) (r : Result (Option Net) Refusal) (h : follower_as r ≡ last_rule (decode w) k) where
  pub last-damaged : decode w ≡ damaged → r ≡ Err Damaged
  last-damaged = place-damaged last_l w k r h

  module _ (S : State) (d : decode w ≡ sound S) where
    pub last-noset : length S.sets ≤ k → r ≡ Err NoSet
    last-noset = place-noset last_l w k r h S d

    module _ (lt : k < length S.sets) where
      pub last-is : (l : List Bits) (p : Bits) → list_at S k ≡ l ++ (p ∷ []) → r ≡ Ok (Some (net_from S.family p))
      last-is l p e = place_found last_l w k r h S d lt p (rw e (last_l-snoc l p))

      pub last_none : list_at S k ≡ [] → r ≡ (Ok None)
      unfolding last_l
      last_none e = place_none last_l w k r h S d lt (rw e)
