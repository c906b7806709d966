-- Comparing two sets, by the tests of the code: where both have nodes, the second set has the first's list exactly if so many words from its root on are the first's, as no
-- list's words begin another's. Assumes nothing.
use mathlib.Core.Bool.{Bool, true, false, false≢true}
use mathlib.Core.List.{List, [], ◌∷◌}
use mathlib.Core.Path.{◌≡◌, refl, sym, ap, ◌∙◌}
use Prim.Native.Nat.{ℕ, ◌+◌, ◌-◌, ◌*◌, ◌≤◌, ◌<◌}
use native.Mathlib.Omega.{arith}
use lib.Dec.{eqb}
use lib.ListN.{length, get_or}
use borrow.Author.Tests.{le-leb, lt-leb, eq-eqb, ne_eqb}
use Rattle.nets.specs.Bits.{Bits, equal}
use Rattle.nets.proofs.Strings.{and_left, and_right, equal-refl, equal_is}
use Rattle.nodes.specs.Words.{Has}
use Rattle.nodes.specs.declared.seats.Seat.{Seat}
use Rattle.pool_state.specs.Kept.{held_l, spot_l}
use Rattle.pool_state.specs.States.{State}
use Rattle.pool_state.specs.Decode.{record_at, base, root_at, form_in, decode}
use Rattle.pool_state.specs.Rules.{answer_on, unknown, first_node, seat_of}
use Rattle.pool_state.specs.Changes.{list_at}
use Rattle.pool_state.specs.Steps.{Refuses, Surveyed, spot_by, stride_in}
use Rattle.pool_state.specs.declared.Survey.{Survey}
use Rattle.pool_state.proofs.Answered.{owes-seat}
use Rattle.pool_state.proofs.Kept.{enc_l-one, stride_l-few}
use Rattle.pool_state.proofs.Claims.{is_list-list_at}
use Rattle.pool_state.proofs.Decoded.{decode-header, decode-root}
use Rattle.pool_state.proofs.Seen.{Seen, words_l, stride_in-is, seen, seen-state, seen-figures, own-has, own_held, own-length, seen-empty, seen-some}
use Rattle.compare.specs.Rules.{same_list, equal_rule, Agree, Nodes}
use Rattle.compare.proofs.Blocks.{nodes-other}
use Rattle.pool_state.proofs.Beside.{its, beside-seen, beside-root}
use Rattle.pool_state.proofs.Holds.{cons-some}

-- Two lists are one.
pub same_list-refl : (l : List Bits) → same_list l l ≡ true
same_list-refl [] = refl
same_list-refl (p ∷ l) = rw (equal-refl p) (same_list-refl l)

pub same_list-is : (l m : List Bits) → same_list l m ≡ true → l ≡ m
same_list-is [] [] e = refl
same_list-is [] (q ∷ m) e = absurd (false≢true e)
same_list-is (p ∷ l) [] e = absurd (false≢true e)
same_list-is (p ∷ l) (q ∷ m) e =
    let a = equal_is p q (and_left (equal p q) (same_list l m) e) in
    let b = same_list-is l m (and_right (equal p q) (same_list l m) e) in
    cc

same_list-not : (l m : List Bits) → (l ≡ m → ⊥) → same_list l m ≡ false
same_list-not l m ne = go (same_list l m) refl
  where
    go : (b : Bool) → same_list l m ≡ b → same_list l m ≡ false
    go true e = absurd (ne (same_list-is l m e))
    go false e = e

-- The root of a list that begins at node i.
root_at-same : (i : ℕ) (m : List Bits) → 1 ≤ i → eqb (root_at i m) 0 ≡ same_list [] m
root_at-same i [] pos = refl
root_at-same i (p ∷ m) pos = ne_eqb i 0 (λ e. omega arith)

root-some : (i : ℕ) (l : List Bits) → (root_at i l ≡ 0 → ⊥) → (l ≡ [] → ⊥) × (root_at i l ≡ i)
root-some i [] ne = absurd (ne refl)
root-some i (p ∷ l) ne = (cons-some p l, refl)

-- A refusal of the first set is the call's, and the second has to be there too.
pub equal-refused : (w : List ℕ) (first second : ℕ) {x : ℕ} → Refuses (decode w) first x → (x, false) ≡ equal_rule (decode w) first second
unfolding equal_rule
equal-refused w first second h = (owes-seat (λ S. unknown S second ∷ []) false _ w (λ S. w) (decode w) first h).0

pub equal-noset : {w : List ℕ} {first : ℕ} {v : Survey} (second : ℕ) → Surveyed w first v → get_or w 2 0 ≤ second → (3, false) ≡ equal_rule (decode w) first second
unfolding equal_rule answer_on
equal-noset {w} {first} second h le =
    let (S, g) = seen h in
    let n = (decode-header w S g.decoded).sets in
    rw (g.decoded, lt-leb (length S.sets) first g.known, le-leb (length S.sets) second (omega arith))

-- Two sets that are there.
module _ {w : List ℕ} {first second : ℕ} {v : Survey} (h : Surveyed w first v) (lt : second < get_or w 2 0) where
  abbrev state : State
  state = (seen h).0

  one : Seen w state first v
  one = (seen h).1

  abbrev found : Survey
  found = its one second lt

  other : Seen w state second found
  other = beside-seen one second lt

  abbrev b : ℕ
  b = base (get_or w 2 0)

  abbrev s : ℕ
  s = stride_in w

  -- c tells whether so many words from the second's root on are the first's
  abbrev Agreed : Bool → Type 0
  Agreed c = Agree w (spot_by s b v.at) (spot_by s b (get_or w (record_at second) 0)) (s * v.held) c

  told : (c : Bool) → same_list (list_at state first) (list_at state second) ≡ c → (0, c) ≡ equal_rule (decode w) first second
  unfolding equal_rule answer_on
  told c e = rw (one.decoded, lt-leb (length state.sets) first one.known, lt-leb (length state.sets) second other.known, e)

  root-tells : eqb (get_or w (record_at second) 0) 0 ≡ same_list [] (list_at state second)
  root-tells =
      let g = other in
      rw (decode-root w state one.decoded second g.known) (root_at-same (first_node second 1 state.sets) (list_at state second) (omega (arith, (seen-figures g).first)))

  pub equal-empty : v.held ≡ 0 → (0, eqb (get_or w (record_at second) 0) 0) ≡ equal_rule (decode w) first second
  equal-empty z = told (eqb (get_or w (record_at second) 0) 0) (rw (seen-empty one z) (sym root-tells))

  -- the first has nodes
  module _ (some : v.held ≡ 0 → ⊥) where
    pub equal-none : get_or w (record_at second) 0 ≡ 0 → (0, false) ≡ equal_rule (decode w) first second
    equal-none z =
        let m = list_at state second in
        told false (same_list-not (list_at state first) m (λ e. seen-some one some (e ∙ sym (same_list-is [] m (sym root-tells ∙ eq-eqb (get_or w (record_at second) 0) 0 z)))))

    -- and so has the second
    module _ (root : get_or w (record_at second) 0 ≡ 0 → ⊥) where
      there : (list_at state second ≡ [] → ⊥) × (get_or w (record_at second) 0 ≡ found.at)
      there =
          let r = beside-root one second lt in
          let x = root-some found.at (list_at state second) (λ e. root (r ∙ e)) in
          (x.0, r ∙ x.1)

      -- sets of one list have as many nodes
      pub equal-short : v.used < get_or w (record_at second) 0 - 1 + v.held → (0, false) ≡ equal_rule (decode w) first second
      equal-short l =
          told false (same_list-not (list_at state first) (list_at state second) (λ e.
          let n : found.held ≡ v.held = own_held other ∙ ap (held_l state.form) (sym e) ∙ sym (own_held one) in
          absurd (omega (arith, there.1, (seen-figures other).last, (seen-figures other).first, one.used, other.used))))

      -- where the words of each stand, and how many the first's are
      first-has : Has w (spot_by s b v.at) (words_l state (list_at state first))
      unfolding spot_l stride_in
      first-has = own-has one

      second-has : Has w (spot_by s b found.at) (words_l state (list_at state second))
      unfolding spot_l stride_in
      second-has = own-has other

      first-length : length (words_l state (list_at state first)) ≡ s * v.held
      first-length = own-length one ∙ ap (λ r. r * v.held) (sym (stride_in-is one))

      module _ (within : get_or w (record_at second) 0 - 1 + v.held ≤ v.used) where
        asks : Nodes w b s v.at (get_or w (record_at second) 0) v.held
        unfolding stride_in
        asks =
            let f = seen-figures one in
            record {
              few = stride_l-few (form_in w) (get_or w 1 0);
              low = omega arith;
              one = omega arith;
              other = omega arith;
              small = omega arith;
              little = omega arith;
              fits = omega arith;
              within = omega arith;
            }

        pub equal-asks : {a : Seat} {r : ℕ} → a ≡ seat_of w v → r ≡ s → Nodes w a.base r a.first (get_or w (record_at second) 0) v.held
        equal-asks e q = rw (e, q) asks

        -- the words agree
        first-there : Agreed true → Has w (spot_by s b found.at) (words_l state (list_at state first))
        first-there f =
            let g = rw there.1 at f in
            record {
              fits = rw (first-length, ← there.1) (nodes-other asks).0;
              at = λ k l. sym (g k (omega (arith, first-length))) ∙ first-has.at k l;
            }

        one_list : Agreed true → list_at state first ≡ list_at state second
        one_list f =
            enc_l-one state.form state.family (is_list-list_at state first (seen-state one)) (is_list-list_at state second (seen-state one)) (seen-some one some) there.0 (first-there f)
            second-has

        tells : (c : Bool) → Agreed c → (0, c) ≡ equal_rule (decode w) first second
        tells true f = told true (rw (one_list f) (same_list-refl (list_at state second)))
        tells false (k, l, ne) =
            told false (same_list-not (list_at state first) (list_at state second) (λ e. ne (first-has.at k (omega (arith, first-length)) ∙ ap (λ m. get_or (words_l state m) k 0) e
            ∙ rw there.1 (sym (second-has.at k (omega (arith, first-length, ap (λ m. length (words_l state m)) e)))))))

        pub equal_words : {a : Seat} {r : ℕ} → a ≡ seat_of w v → r ≡ s → (c : Bool)
            → Agree w (spot_by r a.base a.first) (spot_by r a.base (get_or w (record_at second) 0)) (r * v.held) c → (0, c) ≡ equal_rule (decode w) first second
        equal_words e q c f = tells c (rw (e, q) at f)
