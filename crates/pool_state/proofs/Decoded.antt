-- What sound words say, in the scope document's sentences, as what is decoded stands in the words. So encoding and decoding are inverse, and a granted layout is decoded.
-- Assumes nothing.
use mathlib.Core.Path.{◌≡◌, refl, ◌∙◌}
use mathlib.Core.Bool.{Bool, true, false, cond, false≢true, ◌||◌, not}
use mathlib.Core.List.{List, [], ◌∷◌, ◌++◌}
use Prim.Native.Nat.{ℕ, suc, ◌+◌, ◌/◌, ◌%◌, ◌≤◌, ◌<◌, ◌*◌, zero}
use native.Mathlib.Nat.{zero-add}
use native.Mathlib.Omega.{arith}
use lib.Dec.{eqb, leb}
use lib.ListN.{length, get_or, take, drop, replicate}
use borrow.Author.Tests.{le-leb, eqb-true, ne_eqb}
use Rattle.nets.specs.Bits.{digit}
use Rattle.nets.specs.Lists.{is_list}
use Rattle.nets.specs.Networks.{width}
use Rattle.nets.proofs.Strings.{and_left, and_right}
use Rattle.nodes.specs.Words.{put, Has}
use Rattle.pool_state.specs.Kept.{enc_l, Form, first, second, same_form, form_of, stride_l}
use Rattle.pool_state.specs.States.{State, used, claimed, is_set, are_sets, is_state}
use Rattle.pool_state.specs.Decode.{record_at, base, least_of, root_at, node_words, over, sound, decode, is_form}
use Rattle.pool_state.specs.Rules.{no_set, first_node, total, Setup, layout_no, empty_sets, empty_state, laid, within_limits, words_of, is_setup, is_formed}
use Rattle.nodes.proofs.Put.{length-put}
use Rattle.nodes.proofs.Has.{has-head, has-at}
use Rattle.pool_state.proofs.Kept.{StandsL, held_l-nil, spot_l-one}
use Rattle.pool_state.proofs.Claims.{is_state-sets, is_state-claimed, used-claimed, are_sets-cons}
use Rattle.pool_state.proofs.Setups.{Kept, is_setup-kept, length-empty_sets, indexed_of-empty_sets}
use Rattle.pool_state.proofs.Holds.{HoldsSet, length-node_words, node_words-at, holds_at}
use Rattle.pool_state.proofs.Whole.{HeaderOf, whole-header, whole-decode, decode-whole, over-whole, whole-over}

module _ (w : List ℕ) (S : State) (e : decode w ≡ sound S) where
  pub decode-header : HeaderOf w S
  decode-header = whole-header (decode-whole w S e)

  -- Each set has one list of the family's width, within its limit; each share is at most its limit; a public-only set keeps clear of the inner networks; the claims add up to at most
  -- the nodes.
  pub decode-state : is_state S ≡ true
  decode-state = (decode-whole w S e).plain.state

  -- Each node has at most one place: the lists of the sets stand one behind the other.
  pub decode-has : Has w (base (length S.sets)) (node_words S.family S.sets)
  decode-has = has-at (spot_l-one S.form S.family _) (decode-whole w S e).plain.holds.nodes

  -- Every node that is not placed is free: as many are placed as the lists have, no more than are claimed, and no more are claimed than there are.
  pub decode-used : (length (node_words S.family S.sets) ≡ stride_l S.form S.family * used S.sets) × (used S.sets ≤ claimed S.sets) × (claimed S.sets ≤ S.nodes)
  decode-used = (length-node_words S.form S.family S.sets (is_state-sets S decode-state), used-claimed S.sets, is_state-claimed S decode-state)

  -- Set k: its record, its list, and the lists before and behind it.
  module _ (k : ℕ) (lt : k < length S.sets) where
    pub decode-set : HoldsSet S.form w (base (length S.sets)) S.nodes S.family k (first_node k 1 S.sets) (get_or S.sets k no_set)
    decode-set = rw zero-add at (holds_at 0 k S.sets (omega arith) lt (decode-whole w S e).plain.holds)

    pub decode-root : get_or w (record_at k) 0 ≡ root_at (first_node k 1 S.sets) (get_or S.sets k no_set).list
    decode-root = has-head decode-set.here

    pub decode-share : get_or w (record_at k + 1) 0 ≡ (get_or S.sets k no_set).share
    decode-share = decode-set.here.at 1 (omega arith)

    pub decode-limit : get_or w (record_at k + 2) 0 ≡ (get_or S.sets k no_set).limit
    decode-limit = decode-set.here.at 2 (omega arith)

    pub decode-public : get_or w (record_at k + 3) 0 ≡ digit (get_or S.sets k no_set).public
    decode-public = decode-set.here.at 3 (omega arith)

    pub decode-list : StandsL S.form S.family w (base (length S.sets)) S.nodes (first_node k 1 S.sets) (get_or S.sets k no_set).list
    decode-list = decode-set.list

    pub decode-form : (get_or S.sets k no_set).form ≡ S.form
    decode-form = decode-set.form

    pub decode-parts : node_words S.family S.sets
        ≡ node_words S.family (take k S.sets) ++ (enc_l (get_or S.sets k no_set).form S.family (get_or S.sets k no_set).list ++ node_words S.family (drop (suc k) S.sets))
    decode-parts = node_words-at S.family k S.sets lt

-- Encoding and decoding are inverse.
pub over-decode : (w : List ℕ) (S : State) → decode w ≡ sound S → over w S ≡ w
over-decode w S e = whole-over (decode-whole w S e)

pub decode-over : (w : List ℕ) (S : State) → is_state S ≡ true → least_of S ≤ length w → decode (over w S) ≡ sound S
decode-over w S e le = whole-decode (over-whole w S e le)

pub decode-one : (w : List ℕ) (S T : State) → decode w ≡ sound S → decode w ≡ sound T → S ≡ T
decode-one w S T e f = cc

pub over-one : (w : List ℕ) (S T : State) → is_state S ≡ true → is_state T ≡ true → least_of S ≤ length w → least_of T ≤ length w
    → over w S ≡ over w T → S ≡ T
over-one w S T e f le lf q = decode-one (over w T) S T (rw q at (decode-over w S e le)) (decode-over w T f lf)

-- A granted layout: every set is empty.
is_set-empty : (F : Form) (f x y : ℕ) (c : Bool) → (same_form F first || not c) ≡ true → leb x y ≡ true → is_set f (record { share = x; limit = y; public = false; indexed = c; form = F; list = [] }) ≡ true
unfolding is_list
is_set-empty F f x y c i e = rw (i, e, held_l-nil F, le-leb 0 y (omega arith))

-- the marks of a setup, of which none is there in the second form
abbrev Unmarked : Form → ℕ → Type 0
Unmarked F z = (same_form F first || eqb z 0) ≡ true

unmarked-half : (F : Form) (z : ℕ) → Unmarked F z → ((same_form F first || not (eqb (z % 2) 1)) ≡ true) × Unmarked F (z / 2)
unmarked-half first z e = (refl, refl)
unmarked-half second z e = let q = eqb-true z 0 e in rw q (refl, refl)

empty_sets-is : (F : Form) (v : ℕ) (shares limits : List ℕ) (z : ℕ) → Unmarked F z → within_limits shares limits ≡ true
    → (are_sets F v (empty_sets F shares limits z) ≡ true) × (claimed (empty_sets F shares limits z) ≡ total shares)
unfolding claimed total
empty_sets-is F v [] limits z m e = (refl, refl)
empty_sets-is F v (x ∷ shares) [] z m e = absurd (false≢true e)
empty_sets-is F v (x ∷ shares) (y ∷ limits) z m e =
    let (o, n) = unmarked-half F z m in
    let h = empty_sets-is F v shares limits (z / 2) n (and_right (leb x y) (within_limits shares limits) e) in (
      are_sets-cons F v (record { share = x; limit = y; public = false; indexed = eqb (z % 2) 1; form = F; list = [] }) (empty_sets F shares limits (z / 2)) refl (is_set-empty F v x y (eqb (z % 2) 1) o (and_left (leb x y) (within_limits shares limits) e)) h.0,
      omega (arith, h.1, held_l-nil F),
    )

layout_no-kept : (w : List ℕ) (p : Setup) → layout_no w p ≡ 0 → Kept (length w) p
unfolding layout_no
layout_no-kept w p e = is_setup-kept (length w) p (go (is_setup (length w) p) e)
  where
    go : (b : Bool) → ◌≡◌ {A = ℕ} (cond b 0 1) 0 → b ≡ true
    go true e = refl
    go false e = absurd (omega arith)

module _ (w : List ℕ) (p : Setup) (e : layout_no w p ≡ 0) where
  kept : Kept (length w) p
  kept = layout_no-kept w p e

  -- none is marked in the second form
  kept-unmarked : Unmarked (form_of p.form) p.indexed
  unfolding is_formed
  kept-unmarked = go p.form (and_right (is_form p.form) (eqb p.form 0 || eqb p.indexed 0) kept.form)
    where
      go : (x : ℕ) → (eqb x 0 || eqb p.indexed 0) ≡ true → Unmarked (form_of x) p.indexed
      go zero e = refl
      go (suc x) e = rw (ne_eqb (suc x) 0 (omega arith)) at e

  pub laid-sets : length (empty_state p).sets ≡ p.sets
  laid-sets = length-empty_sets (form_of p.form) p.shares p.limits p.indexed (omega (arith, kept.share, kept.limit)) ∙ kept.share

  pub laid-state : is_state (empty_state p) ≡ true
  unfolding is_state
  laid-state =
      let x = empty_sets-is (form_of p.form) p.family p.shares p.limits p.indexed kept-unmarked kept.within in
      rw (kept.family, laid-sets, kept.size, x.0, x.1) (le-leb (total p.shares) p.nodes kept.total)

  pub laid-least : least_of (empty_state p) ≡ words_of p
  laid-least =
      rw (laid-sets, indexed_of-empty_sets (form_of p.form) p.shares p.limits p.indexed (omega (arith, kept.share, kept.limit)), kept.share)

  pub decode-laid : decode (laid w p) ≡ sound (empty_state p)
  unfolding laid
  decode-laid =
      let z : List ℕ = replicate (words_of p) 0 in
      decode-over (put w 0 z) (empty_state p) laid-state (rw (laid-least, length-put w 0 z) kept.room)
