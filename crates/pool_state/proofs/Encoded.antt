-- Words that hold the header, the records and the lists of a state (`Sound`): `read_pool` gives the state exactly there. SetsWritten over words that are long enough they stand there
-- (`SetsWritten`); and where they stand, to write them changes nothing. Assumes nothing.
use mathlib.Core.Path.{◌≡◌, refl, ◌∙◌, subst, ap, sym}
use mathlib.Core.Bool.{Bool, true, false, cond}
use mathlib.Core.List.{List, [], ◌∷◌}
use Prim.Native.Nat.{ℕ, ◌+◌, ◌≤◌, ◌*◌}
use native.Mathlib.Omega.{arith}
use lib.Dec.{leb, eqb}
use lib.ListN.{length, get_or}
use borrow.Author.Tests.{le-leb}
use Rattle.nodes.specs.Words.{put, Has}
use Rattle.pool_state.specs.Kept.{Form, first, second, form_no, form_of}
use Rattle.pool_state.specs.States.{SetState, State, held, claimed, is_state}
use Rattle.pool_state.specs.Decode.{mark, record_at, base, least_words, over_records, node_words, over_sets, damaged, sound, ReadSets, bad_sets, ok_sets, form_in, is_form, is_header, read_sets, judged, read_pool}
use Rattle.nodes.proofs.Put.{length-put}
use Rattle.nodes.proofs.Has.{has-put, put_has, has-head, has-at, has_same}
use Rattle.pool_state.proofs.Kept.{spot_l-one}
use Rattle.pool_state.proofs.Claims.{is_state-family, is_state-size, is_state-sets, is_state-claimed, used-claimed}
use Rattle.pool_state.proofs.Header.{IsHeader, is_header-header, header-rooms}
use Rattle.pool_state.proofs.Holds.{has_one, has-four, node_words-few, record_of, Records, records-put, Holds, read_sets-of, read_sets-holds}

abbrev pub header_of : State → List ℕ
header_of S = mark ∷ S.family ∷ length S.sets ∷ S.nodes ∷ []

abbrev pub form_word : State → List ℕ
form_word S = form_no S.form ∷ []

abbrev pub headed : List ℕ → State → List ℕ
headed w S = put (put w 0 (header_of S)) 5 (form_word S)

pub record Sound (w : List ℕ) (S : State) : Type 0 where
  pub state : is_state S ≡ true
  pub few : get_or w 4 0 ≤ length S.sets
  pub long : least_words (length S.sets) S.nodes (get_or w 4 0) ≤ length w
  pub header : Has w 0 (header_of S)
  pub form : Has w 5 (form_word S)
  pub holds : Holds S.form w (base (length S.sets)) S.nodes S.family 0 1 S.sets

-- The state that words hold is read: their header is that of the state,
pub record Header (w : List ℕ) (S : State) : Type 0 where
  pub known : is_header w ≡ true
  pub form : form_in w ≡ S.form
  pub family : get_or w 1 0 ≡ S.family
  pub sets : get_or w 2 0 ≡ length S.sets
  pub nodes : get_or w 3 0 ≡ S.nodes

form_of-no : (F : Form) → form_of (form_no F) ≡ F
form_of-no first = refl
form_of-no second = refl

form_no-same : (F : Form) → eqb (form_no F) (form_no F) ≡ true
form_no-same first = refl
form_no-same second = refl

module _ {w : List ℕ} {S : State} (h : Sound w S) where
  sound-form : form_in w ≡ S.form
  sound-form = ap form_of (has-head h.form) ∙ form_of-no S.form

  sound-is_form : is_form (get_or w 5 0) ≡ true
  unfolding is_form
  sound-is_form = rw (has-head h.form, form_of-no S.form, form_no-same S.form)

  pub sound-header : Header w S
  unfolding is_header
  sound-header =
      let f : get_or w 1 0 ≡ S.family = h.header.at 1 (omega arith) in
      let s : get_or w 2 0 ≡ length S.sets = h.header.at 2 (omega arith) in
      let n : get_or w 3 0 ≡ S.nodes = h.header.at 3 (omega arith) in
      let i = le-leb (get_or w 4 0) (length S.sets) h.few in
      let l = le-leb (least_words (length S.sets) S.nodes (get_or w 4 0)) (length w) h.long in
      record { known = rw (has-head h.header, f, s, n, is_state-family S h.state, sound-is_form, is_state-size S h.state, i) l; form = sound-form; family = f; sets = s; nodes = n }

  pub sound-reads : read_pool w ≡ sound S
  unfolding read_pool
  sound-reads =
      let g = sound-header in
      let r =
      read_sets-of w (base (length S.sets)) S.nodes S.family 0 1 S.sets (omega arith)
      (subst (λ F. Holds F w (base (length S.sets)) S.nodes S.family 0 1 S.sets) (sym sound-form) h.holds) in
      rw (g.known, g.family, g.sets, g.nodes, r, g.family, g.form, g.nodes, le-leb (claimed S.sets) S.nodes (is_state-claimed S h.state))

-- and what is read they hold.
abbrev sets_of : List ℕ → ReadSets
sets_of w = read_sets w (base (get_or w 2 0)) (get_or w 3 0) (get_or w 1 0) (get_or w 2 0) 0 1

abbrev state_of : List ℕ → List SetState → State
state_of w xs = record { family = get_or w 1 0; form = form_in w; nodes = get_or w 3 0; sets = xs }

header-sound : {w : List ℕ} → IsHeader w → (xs : List SetState) → sets_of w ≡ ok_sets xs → leb (claimed xs) (get_or w 3 0) ≡ true → Sound w (state_of w xs)
unfolding is_state
header-sound {w} p xs r c =
    let h = read_sets-holds (get_or w 1 0) w (base (get_or w 2 0)) (get_or w 3 0) (header-rooms p) (get_or w 2 0) 0 1 xs (omega arith) (omega arith) (omega arith) r in
    record {
      state = rw (p.family, h.1, p.size, h.0.rules, c);
      few = rw h.1 p.indexed;
      long = rw h.1 p.long;
      header = rw h.1 (rw p.marked at (has-four w 0 (omega arith)));
      form = rw (← p.form) (has_one w 5 (omega (arith, p.long)));
      holds = rw h.1 h.0;
    }

never : (S : State) → damaged ≡ sound S → ⊥
never S e = let z : ◌≡◌ {A = ℕ} 0 1 = cc in omega arith

pub reads-sound : (w : List ℕ) (S : State) → read_pool w ≡ sound S → Sound w S
unfolding read_pool
reads-sound w S e = go (is_header w) (sets_of w) refl refl e
  where
    fit : (xs : List SetState) (c : Bool) → (c ≡ true → Sound w (state_of w xs)) → cond c (sound (state_of w xs)) damaged ≡ sound S → Sound w S
    fit xs false k d = absurd (never S d)
    fit xs true k d = let z : state_of w xs ≡ S = cc in subst (λ (T : State). Sound w T) z (k refl)

    go : (c : Bool) (r : ReadSets) → is_header w ≡ c → sets_of w ≡ r → cond c (judged w r) damaged ≡ sound S → Sound w S
    go false r h q d = absurd (never S d)
    go true bad_sets h q d = absurd (never S d)
    go true (ok_sets xs) h q d = fit xs (leb (claimed xs) (get_or w 3 0)) (header-sound (is_header-header w h) xs q) d

-- Records written: what stands before them stays, they stand, and to write those that stand there changes nothing.
length-over_records : (w : List ℕ) (s i : ℕ) (xs : List SetState) → length (over_records w s i xs) ≡ length w
unfolding over_records
length-over_records w s i [] = refl
length-over_records w s i (x ∷ xs) = length-over_records (put w (record_at s) (record_of i x)) (s + 1) (i + held x) xs ∙ length-put w (record_at s) (record_of i x)

has-over_records : {w : List ℕ} {p : ℕ} {ys : List ℕ} (s i : ℕ) (xs : List SetState) → Has w p ys → p + length ys ≤ record_at s → Has (over_records w s i xs) p ys
unfolding over_records
has-over_records s i [] h le = h
has-over_records {w = w} s i (x ∷ xs) h le = has-over_records {w = put w (record_at s) (record_of i x)} (s + 1) (i + held x) xs (has-put (record_at s) (record_of i x) h (λ k a b c d. omega arith)) (omega arith)

over_records-has : (w : List ℕ) (s i : ℕ) (xs : List SetState) → record_at (s + length xs) ≤ length w → Records (over_records w s i xs) s i xs
unfolding over_records
over_records-has w s i [] le = tt
over_records-has w s i (x ∷ xs) le =
    let u = put w (record_at s) (record_of i x) in
    let here : Has u (record_at s) (record_of i x) = put_has w (record_at s) (record_of i x) (omega arith) in
    (has-over_records (s + 1) (i + held x) xs here (omega arith), over_records-has u (s + 1) (i + held x) xs (rw (length-put w (record_at s) (record_of i x)) (omega arith)))

pub records-same : (w : List ℕ) (s i : ℕ) (xs : List SetState) → Records w s i xs → over_records w s i xs ≡ w
unfolding over_records
records-same w s i [] h = refl
records-same w s i (x ∷ xs) h = rw (has_same h.0) (records-same w (s + 1) (i + held x) xs h.1)

length-headed : (w : List ℕ) (S : State) → length (headed w S) ≡ length w
length-headed w S = length-put (put w 0 (header_of S)) 5 (form_word S) ∙ length-put w 0 (header_of S)

-- A state written over words that are long enough stands there,
pub length-over_sets : (w : List ℕ) (S : State) → length (over_sets w S) ≡ length w
unfolding over_sets
length-over_sets w S =
    length-put _ (base (length S.sets)) (node_words S.family S.sets) ∙ length-over_records (headed w S) 0 1 S.sets ∙ length-headed w S

pub record SetsWritten (w : List ℕ) (S : State) : Type 0 where
  pub header : Has w 0 (header_of S)
  pub form : Has w 5 (form_word S)
  pub records : Records w 0 1 S.sets
  pub nodes : Has w (base (length S.sets)) (node_words S.family S.sets)

pub over_sets-written : (w : List ℕ) (S : State) → is_state S ≡ true → least_words (length S.sets) S.nodes 0 ≤ length w → SetsWritten (over_sets w S) S
unfolding over_sets
over_sets-written w S e le =
    let h = put w 0 (header_of S) in
    let u = headed w S in
    let r = over_records u 0 1 S.sets in
    let b = base (length S.sets) in
    let xs = node_words S.family S.sets in
    let lu : length u ≡ length w = length-headed w S in
    let lr : length r ≡ length u = length-over_records u 0 1 S.sets in
    let few : length xs ≤ 8 * S.nodes =
    omega (arith, node_words-few S.form S.family S.sets (is_state-sets S e), used-claimed S.sets, is_state-claimed S e) in
    record {
      header =
          has-put b xs (has-over_records 0 1 S.sets (has-put 5 (form_word S) (put_has w 0 (header_of S) (omega arith)) (λ k p q s t. omega arith)) (omega arith)) (λ k p q s t. omega arith);
      form = has-put b xs (has-over_records 0 1 S.sets (put_has h 5 (form_word S) (omega (arith, length-put w 0 (header_of S)))) (omega arith)) (λ k p q s t. omega arith);
      records = records-put r 0 1 S.sets b xs (λ k p q s t. omega arith) (over_records-has u 0 1 S.sets (omega arith));
      nodes = put_has r b xs (omega arith);
    }

-- and to write over words what stands there changes nothing.
pub sound-same : {w : List ℕ} {S : State} → Sound w S → over_sets w S ≡ w
unfolding over_sets
sound-same {w} {S} h =
    rw (has_same h.header, has_same h.form, records-same w 0 1 S.sets h.holds.records) (has_same (has-at (spot_l-one S.form S.family _) h.holds.nodes))
