-- States: the rules of a state and of its sets, taken apart, and what the claims of the sets leave of the pool's nodes: free nodes, and the room for a set.
-- Assumes nothing.
use mathlib.Core.Path.{◌≡◌, refl, ap}
use mathlib.Core.Bool.{Bool, true, false, ◌&&◌, not, ◌||◌, false≢true}
use mathlib.Core.List.{List, [], ◌∷◌}
use Prim.Native.Nat.{ℕ, zero, suc, ◌+◌, ◌-◌, ◌≤◌, ◌<◌}
use native.Mathlib.Omega.{arith}
use lib.Dec.{leb}
use lib.ListN.{length, get_or, replicate}
use borrow.Author.Tests.{leb-true}
use Rattle.nets.specs.Bits.{Bits, before}
use Rattle.nets.specs.Lists.{is_list, nodes_l}
use Rattle.nets.specs.Networks.{is_family, width}
use Rattle.nets.proofs.Strings.{and_left, and_right}
use Rattle.pool_state.specs.Kept.{Form, first, same_form, held_l}
use Rattle.pool_state.specs.States.{SetState, State, held, claim, used, claimed, claimed_but, free_of, room_of, admits, indexable, keeps_rules, is_size, is_set, are_sets, is_state}
use Rattle.pool_state.proofs.Kept.{same_form-is, same_form-refl}
use Rattle.pool_state.specs.Rules.{no_set}

-- The rules of a state.
abbrev pub Sized : ℕ → ℕ → Type 0
Sized s n = (1 ≤ s) × (s ≤ 64) × (1 ≤ n) × (n ≤ 4194304)

pub is_size-is : (s n : ℕ) → is_size s n ≡ true → Sized s n
is_size-is s n e =
    let f = and_left (leb 1 s && leb s 64) (leb 1 n && leb n 4194304) e in
    let g = and_right (leb 1 s && leb s 64) (leb 1 n && leb n 4194304) e in (
      leb-true 1 s (and_left (leb 1 s) (leb s 64) f),
      leb-true s 64 (and_right (leb 1 s) (leb s 64) f),
      leb-true 1 n (and_left (leb 1 n) (leb n 4194304) g),
      leb-true n 4194304 (and_right (leb 1 n) (leb n 4194304) g),
    )

abbrev numbers : State → Bool
numbers S = is_family S.family && is_size (length S.sets) S.nodes

abbrev lists : State → Bool
lists S = are_sets S.form S.family S.sets && leb (claimed S.sets) S.nodes

module _ (S : State) (e : is_state S ≡ true) where
  pub is_state-family : is_family S.family ≡ true
  unfolding is_state
  is_state-family = and_left (is_family S.family) (is_size (length S.sets) S.nodes) (and_left (numbers S) (lists S) e)

  pub is_state-size : is_size (length S.sets) S.nodes ≡ true
  unfolding is_state
  is_state-size = and_right (is_family S.family) (is_size (length S.sets) S.nodes) (and_left (numbers S) (lists S) e)

  pub is_state-sets : are_sets S.form S.family S.sets ≡ true
  unfolding is_state
  is_state-sets = and_left (are_sets S.form S.family S.sets) (leb (claimed S.sets) S.nodes) (and_right (numbers S) (lists S) e)

  pub is_state-claimed : claimed S.sets ≤ S.nodes
  unfolding is_state
  is_state-claimed =
      leb-true (claimed S.sets) S.nodes
      (and_right (are_sets S.form S.family S.sets) (leb (claimed S.sets) S.nodes) (and_right (numbers S) (lists S) e))

-- The rules of a set: share and nodes are within the limit, and it keeps clear of the inner networks where it is public-only.
module _ (f : ℕ) (x : SetState) (e : is_set f x ≡ true) where
  pub is_set-list : is_list (width f) x.list ≡ true
  is_set-list = and_left (is_list (width f) x.list) (keeps_rules f x) e

  pub is_set-rules : keeps_rules f x ≡ true
  is_set-rules = and_right (is_list (width f) x.list) (keeps_rules f x) e

  abbrev within : Bool
  within = leb x.share x.limit && (leb (held x) x.limit && admits f x x.list)

  pub is_set-indexable : indexable x ≡ true
  is_set-indexable = and_left (indexable x) within is_set-rules

  is_within : within ≡ true
  is_within = and_right (indexable x) within is_set-rules

  pub is_set-share : x.share ≤ x.limit
  is_set-share = leb-true x.share x.limit (and_left (leb x.share x.limit) (leb (held x) x.limit && admits f x x.list) is_within)

  held-admits : (leb (held x) x.limit && admits f x x.list) ≡ true
  held-admits = and_right (leb x.share x.limit) (leb (held x) x.limit && admits f x x.list) is_within

  pub is_set-held : held x ≤ x.limit
  is_set-held = leb-true (held x) x.limit (and_left (leb (held x) x.limit) (admits f x x.list) held-admits)

  pub is_set-admits : admits f x x.list ≡ true
  is_set-admits = and_right (leb (held x) x.limit) (admits f x x.list) held-admits

pub indexable-first : (x : SetState) → x.indexed ≡ true → indexable x ≡ true → x.form ≡ first
indexable-first x q e = same_form-is x.form first (go (same_form x.form first) (rw q at e))
  where
    go : (c : Bool) → (c || not true) ≡ true → c ≡ true
    go true p = refl
    go false p = absurd (false≢true p)

module _ (F : Form) (f : ℕ) (x : SetState) (xs : List SetState) (e : are_sets F f (x ∷ xs) ≡ true) where
  first-set : (same_form x.form F && is_set f x) ≡ true
  first-set = and_left (same_form x.form F && is_set f x) (are_sets F f xs) e

  pub are_sets-form : x.form ≡ F
  are_sets-form = same_form-is x.form F (and_left (same_form x.form F) (is_set f x) first-set)

  pub are_sets-head : is_set f x ≡ true
  are_sets-head = and_right (same_form x.form F) (is_set f x) first-set

  pub are_sets-tail : are_sets F f xs ≡ true
  are_sets-tail = and_right (same_form x.form F && is_set f x) (are_sets F f xs) e

pub are_sets-cons : (F : Form) (f : ℕ) (x : SetState) (xs : List SetState) → x.form ≡ F → is_set f x ≡ true → are_sets F f xs ≡ true → are_sets F f (x ∷ xs) ≡ true
are_sets-cons F f x xs q e g = rw (e, g, ap (λ G. same_form G F) q) (rw (same_form-refl F))

-- So every set of a state keeps them; a number that is no set's has an empty one, which does too.
are_sets-at : (F : Form) (f k : ℕ) (xs : List SetState) → are_sets F f xs ≡ true → is_set f (get_or xs k no_set) ≡ true
unfolding is_list held_l nodes_l
are_sets-at F f k [] e = refl
are_sets-at F f zero (x ∷ xs) e = are_sets-head F f x xs e
are_sets-at F f (suc k) (x ∷ xs) e = are_sets-at F f k xs (are_sets-tail F f x xs e)

-- and is kept in the pool's form.
pub form-at : (F : Form) (f k : ℕ) (xs : List SetState) → k < length xs → are_sets F f xs ≡ true → (get_or xs k no_set).form ≡ F
form-at F f k [] lt e = absurd (omega arith)
form-at F f zero (x ∷ xs) lt e = are_sets-form F f x xs e
form-at F f (suc k) (x ∷ xs) lt e = form-at F f k xs (omega arith) (are_sets-tail F f x xs e)

module _ (S : State) (k : ℕ) (e : is_state S ≡ true) where
  abbrev set : SetState
  set = get_or S.sets k no_set

  rules : is_set S.family set ≡ true
  rules = are_sets-at S.form S.family k S.sets (is_state-sets S e)

  pub is_list-list_at : is_list (width S.family) set.list ≡ true
  is_list-list_at = is_set-list S.family set rules

  pub share-limit : set.share ≤ set.limit
  share-limit = is_set-share S.family set rules

  pub held-limit : held set ≤ set.limit
  held-limit = is_set-held S.family set rules

  pub indexable-at : indexable set ≡ true
  indexable-at = is_set-indexable S.family set rules

  -- a public-only set keeps clear of the inner networks
  pub admits-list_at : admits S.family set set.list ≡ true
  admits-list_at = is_set-admits S.family set rules

-- The claims.
pub used-claimed : (ss : List SetState) → used ss ≤ claimed ss
unfolding used claimed
used-claimed [] = omega arith
used-claimed (s ∷ ss) = omega (arith, used-claimed ss)

pub claimed_but-is : (k : ℕ) (ss : List SetState) → k < length ss → claimed_but k ss + claim (get_or ss k no_set) ≡ claimed ss
unfolding claimed claimed_but
claimed_but-is k [] lt = absurd (omega arith)
claimed_but-is zero (s ∷ ss) lt = omega arith
claimed_but-is (suc k) (s ∷ ss) lt = omega (arith, claimed_but-is k ss (omega arith))

-- what is not placed is free
pub free_of-is : (S : State) → is_state S ≡ true → free_of S + used S.sets ≡ S.nodes
free_of-is S e = omega (arith, is_state-claimed S e, used-claimed S.sets)

-- the room for a set is all that the others do not claim
pub room_of-is : (S : State) (k : ℕ) → k < length S.sets → room_of S k ≡ S.nodes - (claimed S.sets - claim (get_or S.sets k no_set))
room_of-is S k lt = omega (arith, claimed_but-is k S.sets lt)

-- The scope document's pool: IPv6, 100 nodes, shares 40 and 30, limits 60 and 80, set 0 empty; set 1 is empty, or has one /59.
abbrev pool_with : List Bits → State
pool_with l =
    record {
      family = 6;
      form = first;
      nodes = 100;
      sets = record { share = 40; limit = 60; public = false; indexed = false; form = first; list = [] } ∷ record { share = 30; limit = 80; public = false; indexed = false; form = first; list = l } ∷ [];
    }

pub room-empty : (is_state (pool_with []) ≡ true) × (room_of (pool_with []) 1 ≡ 60) × (room_of (pool_with []) 0 ≡ 70)
unfolding is_state claimed claimed_but is_list held_l nodes_l
room-empty = (refl, refl, refl)

abbrev one59 : List Bits
one59 = replicate 59 false ∷ []

pub room-one59 : (is_state (pool_with one59) ≡ true) × (held_l first one59 ≡ 60) × (room_of (pool_with one59) 0 ≡ 40)
unfolding is_state claimed claimed_but is_list held_l nodes_l before width
room-one59 = (refl, refl, refl)
