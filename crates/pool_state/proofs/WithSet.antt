-- A state with another set in the place of one: what stays, the sums of nodes and claims, in which only that set's terms differ, and when it is a state again (`Fits`).
-- A set with another list is one of them. Assumes nothing.
use mathlib.Core.Path.{◌≡◌, refl, ap, ◌∙◌}
use mathlib.Core.Bool.{true, ◌&&◌}
use mathlib.Core.List.{List, [], ◌∷◌}
use Prim.Native.Nat.{ℕ, zero, suc, ◌+◌, ◌≤◌, ◌<◌}
use native.Mathlib.Omega.{arith}
use lib.Dec.{leb}
use lib.ListN.{length, get_or}
use borrow.Author.Tests.{le-leb, leb-true}
use Rattle.nets.specs.Bits.{Bits}
use Rattle.nets.specs.Lists.{is_list}
use Rattle.nets.specs.Networks.{width}
use Rattle.nets.proofs.Strings.{and_left, and_right}
use Rattle.pool_state.specs.States.{SetState, State, held, claim, used, claimed, indexed_of, room_of, admits, is_set, are_sets, is_state, indexable}
use Rattle.pool_state.specs.Decode.{least_of}
use Rattle.pool_state.specs.Rules.{no_set}
use Rattle.pool_state.specs.Changes.{set_at, list_at, sets_with, with_set, fits, set_with}
use Rattle.pool_state.proofs.Claims.{is_state-family, is_state-size, is_state-sets, is_state-claimed, are_sets-head, are_sets-tail, claimed_but-is, are_sets-form, are_sets-cons, indexable-at, form-at}
use Rattle.pool_state.specs.Kept.{Form}

-- Sets.
pub length-sets_with : (k : ℕ) (x : SetState) (ss : List SetState) → length (sets_with k x ss) ≡ length ss
length-sets_with k x [] = refl
length-sets_with zero x (s ∷ ss) = refl
length-sets_with (suc k) x (s ∷ ss) = ap suc (length-sets_with k x ss)

sets_with-at : (k : ℕ) (x : SetState) (ss : List SetState) → k < length ss → get_or (sets_with k x ss) k no_set ≡ x
sets_with-at k x [] lt = absurd (omega arith)
sets_with-at zero x (s ∷ ss) lt = refl
sets_with-at (suc k) x (s ∷ ss) lt = sets_with-at k x ss (omega arith)

sets_with-other : (k j : ℕ) (x : SetState) (ss : List SetState) → (j ≡ k → ⊥) → get_or (sets_with k x ss) j no_set ≡ get_or ss j no_set
sets_with-other k j x [] ne = refl
sets_with-other zero zero x (s ∷ ss) ne = absurd (ne refl)
sets_with-other zero (suc j) x (s ∷ ss) ne = refl
sets_with-other (suc k) zero x (s ∷ ss) ne = refl
sets_with-other (suc k) (suc j) x (s ∷ ss) ne = sets_with-other k j x ss (λ e. ne (ap suc e))

pub used-sets_with : (k : ℕ) (x : SetState) (ss : List SetState) → k < length ss → used (sets_with k x ss) + held (get_or ss k no_set) ≡ used ss + held x
unfolding used
used-sets_with k x [] lt = absurd (omega arith)
used-sets_with zero x (s ∷ ss) lt = omega arith
used-sets_with (suc k) x (s ∷ ss) lt = omega (arith, used-sets_with k x ss (omega arith))

pub claimed-sets_with : (k : ℕ) (x : SetState) (ss : List SetState) → k < length ss → claimed (sets_with k x ss) + claim (get_or ss k no_set) ≡ claimed ss + claim x
unfolding claimed
claimed-sets_with k x [] lt = absurd (omega arith)
claimed-sets_with zero x (s ∷ ss) lt = omega arith
claimed-sets_with (suc k) x (s ∷ ss) lt = omega (arith, claimed-sets_with k x ss (omega arith))

are_sets-sets_with : (F : Form) (f k : ℕ) (x : SetState) (ss : List SetState) → are_sets F f ss ≡ true → x.form ≡ F → is_set f x ≡ true → are_sets F f (sets_with k x ss) ≡ true
are_sets-sets_with F f k x [] e q i = refl
are_sets-sets_with F f zero x (s ∷ ss) e q i = are_sets-cons F f x ss q i (are_sets-tail F f s ss e)
are_sets-sets_with F f (suc k) x (s ∷ ss) e q i =
    are_sets-cons F f s (sets_with k x ss) (are_sets-form F f s ss e) (are_sets-head F f s ss e) (are_sets-sets_with F f k x ss (are_sets-tail F f s ss e) q i)

-- the same share, limit, marks and form; another list leaves them
abbrev pub SamePlan : SetState → SetState → Type 0
SamePlan x y = (x.share ≡ y.share) × (x.limit ≡ y.limit) × (x.public ≡ y.public) × (x.indexed ≡ y.indexed) × (x.form ≡ y.form)

sets_with-plan : (k j : ℕ) (l : List Bits) (ss : List SetState) → SamePlan (get_or (sets_with k (set_with (get_or ss k no_set) l) ss) j no_set) (get_or ss j no_set)
sets_with-plan k j l [] = (refl, refl, refl, refl, refl)
sets_with-plan zero zero l (s ∷ ss) = (refl, refl, refl, refl, refl)
sets_with-plan zero (suc j) l (s ∷ ss) = (refl, refl, refl, refl, refl)
sets_with-plan (suc k) zero l (s ∷ ss) = (refl, refl, refl, refl, refl)
sets_with-plan (suc k) (suc j) l (s ∷ ss) = sets_with-plan k j l ss

indexed_of-sets_with : (k : ℕ) (x : SetState) (ss : List SetState) → x.indexed ≡ (get_or ss k no_set).indexed → indexed_of (sets_with k x ss) ≡ indexed_of ss
unfolding indexed_of
indexed_of-sets_with k x [] e = refl
indexed_of-sets_with zero x (s ∷ ss) e = rw e
indexed_of-sets_with (suc k) x (s ∷ ss) e = rw (indexed_of-sets_with k x ss e)

-- States.
module _ (S : State) (k : ℕ) (x : SetState) where
  -- the smallest buffer stays
  pub with_set-least : x.indexed ≡ (set_at S k).indexed → least_of (with_set S k x) ≡ least_of S
  unfolding with_set
  with_set-least e = rw (length-sets_with k x S.sets, indexed_of-sets_with k x S.sets e)

  pub with_set-length : length (with_set S k x).sets ≡ length S.sets
  unfolding with_set
  with_set-length = length-sets_with k x S.sets

  pub with_set-at : k < length S.sets → set_at (with_set S k x) k ≡ x
  unfolding with_set
  with_set-at lt = sets_with-at k x S.sets lt

  pub with_set-other : (j : ℕ) → (j ≡ k → ⊥) → set_at (with_set S k x) j ≡ set_at S j
  unfolding with_set
  with_set-other j ne = sets_with-other k j x S.sets ne

module _ (S : State) (k : ℕ) (l : List Bits) where
  pub with_set-list : k < length S.sets → list_at (with_set S k (set_with (set_at S k) l)) k ≡ l
  with_set-list lt = ap (λ (s : SetState). s.list) (with_set-at S k (set_with (set_at S k) l) lt)

  pub with_set-plan : (j : ℕ) → SamePlan (set_at (with_set S k (set_with (set_at S k) l)) j) (set_at S j)
  unfolding with_set
  with_set-plan j = sets_with-plan k j l S.sets

-- What may stand in the place of a set.
pub record Fits (S : State) (k : ℕ) (x : SetState) : Type 0 where
  pub share : x.share ≤ x.limit
  pub held : held x ≤ x.limit
  pub public : admits S.family x x.list ≡ true
  pub room : claim x ≤ room_of S k

module _ (S : State) (k : ℕ) (x : SetState) where
  pub fits-is : fits S k x ≡ true → Fits S k x
  unfolding fits
  fits-is e =
      let b = leb x.share x.limit in
      let c = leb (held x) x.limit in
      let p = admits S.family x x.list in
      let d = leb (claim x) (room_of S k) in
      let f = and_right b (c && (p && d)) e in
      let g = and_right c (p && d) f in
      record {
        share = leb-true x.share x.limit (and_left b (c && (p && d)) e);
        held = leb-true (held x) x.limit (and_left c (p && d) f);
        public = and_left p d g;
        room = leb-true (claim x) (room_of S k) (and_right p d g);
      }

  pub is-fits : Fits S k x → fits S k x ≡ true
  unfolding fits
  is-fits h = rw (le-leb x.share x.limit h.share, le-leb (held x) x.limit h.held, h.public) (le-leb (claim x) (room_of S k) h.room)

-- What a set claims is within its room, and so is whatever is within its share.
module _ (S : State) (k : ℕ) (e : is_state S ≡ true) (lt : k < length S.sets) where
  pub claim-room_of : claim (set_at S k) ≤ room_of S k
  claim-room_of = omega (arith, claimed_but-is k S.sets lt, is_state-claimed S e)

  pub share-room_of : (n : ℕ) → n ≤ (set_at S k).share → n ≤ room_of S k
  share-room_of n le = omega (arith, claim-room_of)

  -- What fits leaves a state again.
  module _ (x : SetState) where
    -- it is indexed where the set is, and kept in the same form
    indexable-as : x.form ≡ (set_at S k).form → x.indexed ≡ (set_at S k).indexed → indexable x ≡ true
    indexable-as q m = rw (q, m) (indexable-at S k e)

    pub is_state-with_set : x.form ≡ (set_at S k).form → x.indexed ≡ (set_at S k).indexed → is_list (width S.family) x.list ≡ true → Fits S k x → is_state (with_set S k x) ≡ true
    unfolding is_state with_set
    is_state-with_set q m i f =
        let c : claimed (sets_with k x S.sets) ≤ S.nodes =
        omega (arith, claimed-sets_with k x S.sets lt, claimed_but-is k S.sets lt, is_state-claimed S e, f.room) in
        let s : is_set S.family x ≡ true = rw (i, indexable-as q m, le-leb x.share x.limit f.share, le-leb (held x) x.limit f.held) f.public in
        rw (
          is_state-family S e,
          length-sets_with k x S.sets,
          is_state-size S e,
          are_sets-sets_with S.form S.family k x S.sets (is_state-sets S e) (q ∙ form-at S.form S.family k S.sets lt (is_state-sets S e)) s,
        )
        (le-leb _ _ c)
