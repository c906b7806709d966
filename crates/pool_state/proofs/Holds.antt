-- Sets in words: `read_sets` gives sets exactly where the words hold them (`Holds`), the records each at its place and the lists one behind the other.
-- Assumes nothing.
use mathlib.Core.Path.{◌≡◌, refl, sym, ap, ◌∙◌, subst}
use mathlib.Core.Bool.{Bool, true, false, not, cond}
use mathlib.Core.List.{List, [], ◌∷◌, ◌++◌, append_assoc}
use Prim.Native.Nat.{ℕ, zero, suc, ◌+◌, ◌*◌, ◌≤◌, ◌<◌}
use native.Mathlib.Nat.{mul-add}
use native.Mathlib.Omega.{arith}
use lib.Dec.{eqb, leb}
use lib.ListN.{length, get_or, take, drop, length-append}
use borrow.Author.Tests.{eq-eqb, ne_eqb, eqb-true, leb-true}
use Rattle.nets.specs.Bits.{Bits, digit}
use Rattle.nets.specs.Networks.{width}
use Rattle.nets.proofs.Strings.{and_left, and_right}
use Rattle.nodes.specs.Words.{put, Has, Apart}
use Rattle.pool_state.specs.Kept.{Form, held_l, enc_l, stride_l, spot_l, RoomL, ReadList, bad_list, ok_list, read_l}
use Rattle.pool_state.specs.States.{SetState, held, used, keeps_rules, is_set, are_sets}
use Rattle.pool_state.specs.Decode.{record_at, root_at, node_words, ReadSets, bad_sets, ok_sets, form_in, read_set, set_of, is_right, set_before, read_sets}
use Rattle.pool_state.specs.Rules.{no_set, first_node}
use Rattle.nodes.proofs.Has.{has-put, has-front, has-back, has-head, has-at, has_join}
use Rattle.pool_state.proofs.Kept.{spot_l-on, spot_l-end, stride_l-words, StandsL, length-enc_l, nil-stands, read_l-of, read_l-stands, never-read}
use Rattle.pool_state.proofs.Claims.{is_set-list, is_set-rules, are_sets-form, are_sets-head, are_sets-tail, are_sets-cons}

-- The words of a set, and of sets.
set_words : (F : Form) (v : ℕ) (x : SetState) → x.form ≡ F → is_set v x ≡ true → length (enc_l x.form v x.list) ≡ stride_l F v * held x
set_words F v x q e = length-enc_l (width v) x.list (is_set-list v x e) x.form v ∙ ap (λ G. stride_l G v * held x) q

pub length-node_words : (F : Form) (v : ℕ) (xs : List SetState) → are_sets F v xs ≡ true → length (node_words v xs) ≡ stride_l F v * used xs
unfolding node_words used
length-node_words F v [] e = omega arith
length-node_words F v (x ∷ xs) e =
    let a = set_words F v x (are_sets-form F v x xs e) (are_sets-head F v x xs e) in
    let b = length-node_words F v xs (are_sets-tail F v x xs e) in
    length-append (enc_l x.form v x.list) (node_words v xs) ∙ rw (a, b) (sym (mul-add (stride_l F v) (held x) (used xs)))

pub node_words-few : (F : Form) (v : ℕ) (xs : List SetState) → are_sets F v xs ≡ true → length (node_words v xs) ≤ 8 * used xs
node_words-few F v xs e = omega (arith, length-node_words F v xs e, stride_l-words F v (used xs))

-- What stands in the words w, with the nodes 1..n from b on and lists of the family v: the record of a set, records, a set, and sets; the first is set s and begins at node i.
abbrev pub record_of : ℕ → SetState → List ℕ
record_of i x = root_at i x.list ∷ x.share ∷ x.limit ∷ digit x.public ∷ []

abbrev pub Records : List ℕ → ℕ → ℕ → List SetState → Type 0
Records w s i [] = Unit
Records w s i (x ∷ xs) = Has w (record_at s) (record_of i x) × Records w (s + 1) (i + held x) xs

-- a write apart from them leaves the records
pub records-put : (w : List ℕ) (s i : ℕ) (xs : List SetState) (q : ℕ) (ys : List ℕ) → Apart (record_at s) (8 * length xs) q (length ys) → Records w s i xs → Records (put w q ys) s i xs
records-put w s i [] q ys far h = tt
records-put w s i (x ∷ xs) q ys far h = (
  has-put q ys h.0 (λ k a b c d. far k a (omega arith) c d),
  records-put w (s + 1) (i + held x) xs q ys (λ k a b c d. far k (omega arith) (omega arith) c d) h.1,
)

-- the tags say which sets are indexed
abbrev pub Tagged : List ℕ → ℕ → SetState → Type 0
Tagged w s x = not (eqb (get_or w (record_at s + 4) 0) 0) ≡ x.indexed

abbrev pub AllTagged : List ℕ → ℕ → List SetState → Type 0
AllTagged w s [] = Unit
AllTagged w s (x ∷ xs) = Tagged w s x × AllTagged w (s + 1) xs

pub record HoldsSet (F : Form) (w : List ℕ) (b n v s i : ℕ) (x : SetState) : Type 0 where
  pub form : x.form ≡ F
  pub rules : is_set v x ≡ true
  pub here : Has w (record_at s) (record_of i x)
  pub tag : Tagged w s x
  pub list : StandsL F v w b n i x.list

pub record Holds (F : Form) (w : List ℕ) (b n v s i : ℕ) (xs : List SetState) : Type 0 where
  pub rules : are_sets F v xs ≡ true
  pub records : Records w s i xs
  pub tags : AllTagged w s xs
  pub nodes : Has w (spot_l F v b i) (node_words v xs)
  pub within : i + used xs ≤ suc n

-- where the next set begins
pub next-set : (F : Form) (v b i : ℕ) (x : SetState) → 1 ≤ i → x.form ≡ F → is_set v x ≡ true → spot_l F v b i + length (enc_l x.form v x.list) ≡ spot_l F v b (i + held x)
next-set F v b i x pos q e = ap (λ m. spot_l F v b i + m) (set_words F v x q e) ∙ spot_l-on F v b i (held x) pos

module _ {F : Form} {w : List ℕ} {b n v s i : ℕ} {x : SetState} {xs : List SetState} (pos : 1 ≤ i) where
  holds-cons : HoldsSet F w b n v s i x → Holds F w b n v (s + 1) (i + held x) xs → Holds F w b n v s i (x ∷ xs)
  unfolding node_words used
  holds-cons h g = record {
    rules = are_sets-cons F v x xs h.form h.rules g.rules;
    records = (h.here, g.records);
    tags = (h.tag, g.tags);
    nodes = has_join (enc_l x.form v x.list) (node_words v xs) (rw h.form h.list.has) (has-at (sym (next-set F v b i x pos h.form h.rules)) g.nodes);
    within = omega (arith, g.within);
  }

  holds-head : Holds F w b n v s i (x ∷ xs) → HoldsSet F w b n v s i x
  unfolding node_words used
  holds-head h =
      let e = are_sets-head F v x xs h.rules in
      let q = are_sets-form F v x xs h.rules in
      record {
        form = q;
        rules = e;
        here = h.records.0;
        tag = h.tags.0;
        list = record {
          list = is_set-list v x e;
          within = omega (arith, h.within, ap (λ G. held_l G x.list) q);
          has = rw q at (has-front (enc_l x.form v x.list) (node_words v xs) h.nodes);
        };
      }

  holds-tail : Holds F w b n v s i (x ∷ xs) → Holds F w b n v (s + 1) (i + held x) xs
  unfolding node_words used
  holds-tail h =
      let e = next-set F v b i x pos (are_sets-form F v x xs h.rules) (are_sets-head F v x xs h.rules) in
      record {
        rules = are_sets-tail F v x xs h.rules;
        records = h.records.1;
        tags = h.tags.1;
        nodes = has-at e (has-back (enc_l x.form v x.list) (node_words v xs) h.nodes);
        within = omega (arith, h.within);
      }

-- The root's number tells the empty list from the others.
pub root_at-some : (i : ℕ) (l : List Bits) → (l ≡ [] → ⊥) → root_at i l ≡ i
root_at-some i [] ne = absurd (ne refl)
root_at-some i (p ∷ l) ne = refl

pub cons-some : (p : Bits) (l : List Bits) → p ∷ l ≡ [] → ⊥
cons-some p l e = let y : ◌≡◌ {A = ℕ} 0 1 = cc in omega arith

-- The word of a mark, and the mark of a word.
pub digit-is : (c : Bool) → eqb (digit c) 1 ≡ c
digit-is false = refl
digit-is true = refl

digit-few : (c : Bool) → leb (digit c) 1 ≡ true
digit-few false = refl
digit-few true = refl

digit-of : (x : ℕ) → x ≤ 1 → x ≡ digit (eqb x 1)
digit-of zero le = refl
digit-of (suc zero) le = refl
digit-of (suc (suc x)) le = absurd (omega arith)

-- A set is read where the words hold it,
read_set-root : (w : List ℕ) (b n v s i : ℕ) (l : List Bits) → 1 ≤ i → get_or w (record_at s) 0 ≡ root_at i l → StandsL (form_in w) v w b n i l → read_set w b n v s i ≡ ok_list l
unfolding read_set
read_set-root w b n v s i [] pos r h = rw (eq-eqb (get_or w (record_at s) 0) 0 r)
read_set-root w b n v s i (p ∷ l) pos r h = rw (r, ne_eqb i 0 (omega arith), eq-eqb i i refl) (read_l-of (form_in w) pos (cons-some p l) h)

module _ {w : List ℕ} {b n v s i : ℕ} {x : SetState} (pos : 1 ≤ i) (h : HoldsSet (form_in w) w b n v s i x) where
  read_set-of : read_set w b n v s i ≡ ok_list x.list
  read_set-of = read_set-root w b n v s i x.list pos (has-head h.here) h.list

  set_of-of : set_of w s x.list ≡ x
  set_of-of = rw (h.here.at 1 (omega arith), h.here.at 2 (omega arith), h.here.at 3 (omega arith), digit-is x.public, h.tag, h.form)

  is_right-of : is_right w v s x.list ≡ true
  is_right-of =
      let a : leb (get_or w (record_at s + 3) 0) 1 ≡ true = rw (h.here.at 3 (omega arith)) (digit-few x.public) in
      rw a (ap (keeps_rules v) set_of-of ∙ is_set-rules v x h.rules)

read_sets-step : (w : List ℕ) (b n f m s i : ℕ) (l : List Bits) → read_set w b n f s i ≡ ok_list l
    → read_sets w b n f (suc m) s i ≡ set_before (is_right w f s l) (set_of w s l) (read_sets w b n f m (s + 1) (i + held_l (form_in w) l))
unfolding read_sets
read_sets-step w b n f m s i l e = rw (e, read_sets)

pub read_sets-of : (w : List ℕ) (b n v s i : ℕ) (xs : List SetState) → 1 ≤ i → Holds (form_in w) w b n v s i xs → read_sets w b n v (length xs) s i ≡ ok_sets xs
unfolding read_sets
read_sets-of w b n v s i [] pos h = refl
read_sets-of w b n v s i (x ∷ xs) pos h =
    let g = holds-head pos h in
    let e =
    subst (λ G. read_sets w b n v (length xs) (s + 1) (i + held_l G x.list) ≡ ok_sets xs) g.form (read_sets-of w b n v (s + 1) (i + held x) xs (omega arith) (holds-tail pos h)) in
    read_sets-step w b n v (length xs) s i x.list (read_set-of pos g) ∙ rw (is_right-of pos g, set_of-of pos g, e)

-- and what is read stands there.
never-sets : (xs : List SetState) → bad_sets ≡ ok_sets xs → ⊥
never-sets xs e = let z : ◌≡◌ {A = ℕ} 0 1 = cc in omega arith

set_before-ok : (c : Bool) (x : SetState) (r : ReadSets) (xs : List SetState) → set_before c x r ≡ ok_sets xs → (ys : List SetState) × (r ≡ ok_sets ys) × (c ≡ true) × (x ∷ ys ≡ xs)
set_before-ok c x bad_sets xs e = absurd (never-sets xs e)
set_before-ok true x (ok_sets ys) xs e = (ys, refl, refl, cc)
set_before-ok false x (ok_sets ys) xs e = absurd (never-sets xs e)

-- a word, and four words, as they are read
pub has_one : (w : List ℕ) (p : ℕ) → p < length w → Has w p (get_or w p 0 ∷ [])
has_one w p le = record { fits = omega arith; at = go }
  where
    go : (k : ℕ) → k < 1 → get_or w (p + k) 0 ≡ get_or (get_or w p 0 ∷ []) k 0
    go zero l = let e : p + 0 ≡ p = omega arith in rw e
    go (suc k) l = absurd (omega arith)

pub has-four : (w : List ℕ) (p : ℕ) → p + 4 ≤ length w → Has w p (get_or w p 0 ∷ get_or w (p + 1) 0 ∷ get_or w (p + 2) 0 ∷ get_or w (p + 3) 0 ∷ [])
has-four w p le = record { fits = le; at = go }
  where
    go : (k : ℕ) → k < 4 → get_or w (p + k) 0 ≡ get_or (get_or w p 0 ∷ get_or w (p + 1) 0 ∷ get_or w (p + 2) 0 ∷ get_or w (p + 3) 0 ∷ []) k 0
    go zero l = let e : p + 0 ≡ p = omega arith in rw e
    go (suc zero) l = refl
    go (suc (suc zero)) l = refl
    go (suc (suc (suc zero))) l = refl
    go (suc (suc (suc (suc k)))) l = absurd (omega arith)

module _ (v : ℕ) (w : List ℕ) (b n : ℕ) (room : RoomL v w b n) where
  read_set-stands : (s i : ℕ) (l : List Bits) → 1 ≤ i → i ≤ suc n → read_set w b n v s i ≡ ok_list l → (get_or w (record_at s) 0 ≡ root_at i l) × StandsL (form_in w) v w b n i l
  unfolding read_set
  read_set-stands s i l pos le e = go (eqb (get_or w (record_at s) 0) 0) (eqb (get_or w (record_at s) 0) i) refl refl e
    where
      go : (c o : Bool) → eqb (get_or w (record_at s) 0) 0 ≡ c → eqb (get_or w (record_at s) 0) i ≡ o → cond c (ok_list []) (cond o (read_l (form_in w) v w b n i) bad_list) ≡ ok_list l
          → (get_or w (record_at s) 0 ≡ root_at i l) × StandsL (form_in w) v w b n i l
      go true o z q h =
          let a : [] ≡ l = cc in
          subst (λ m. (get_or w (record_at s) 0 ≡ root_at i m) × StandsL (form_in w) v w b n i m) a (eqb-true (get_or w (record_at s) 0) 0 z, nil-stands (form_in w) v w b n i le (spot_l-end (form_in w) room i le))
      go false true z q h =
          let (a, ne) = read_l-stands (form_in w) room pos h in
          (eqb-true (get_or w (record_at s) 0) i q ∙ sym (root_at-some i l ne), a)
      go false false z q h = absurd (never-read l h)

  module _ (m s i : ℕ) (pos : 1 ≤ i) (le : i ≤ suc n) (fits : record_at (s + suc m) ≤ length w) where
    read_set-holds : (l : List Bits) → read_set w b n v s i ≡ ok_list l → is_right w v s l ≡ true → HoldsSet (form_in w) w b n v s i (set_of w s l)
    read_set-holds l e r =
        let h = read_set-stands s i l pos le e in
        let z = leb-true (get_or w (record_at s + 3) 0) 1 (and_left (leb (get_or w (record_at s + 3) 0) 1) (keeps_rules v (set_of w s l)) r) in
        record {
          form = refl;
          rules = rw h.1.list (and_right (leb (get_or w (record_at s + 3) 0) 1) (keeps_rules v (set_of w s l)) r);
          here = rw (h.0, digit-of (get_or w (record_at s + 3) 0) z) at (has-four w (record_at s) (omega arith));
          tag = refl;
          list = h.1;
        }

    read_sets-first : (xs : List SetState) → read_sets w b n v (suc m) s i ≡ ok_sets xs
        → (x : SetState) × (ys : List SetState) × HoldsSet (form_in w) w b n v s i x × (read_sets w b n v m (s + 1) (i + held x) ≡ ok_sets ys) × (x ∷ ys ≡ xs)
    unfolding read_sets
    read_sets-first xs e = go (read_set w b n v s i) refl
      where
        go : (r : ReadList) → read_set w b n v s i ≡ r
            → (x : SetState) × (ys : List SetState) × HoldsSet (form_in w) w b n v s i x × (read_sets w b n v m (s + 1) (i + held x) ≡ ok_sets ys) × (x ∷ ys ≡ xs)
        go bad_list q = absurd (never-sets xs (rw (q, read_sets) at e))
        go (ok_list l) q =
            let a = set_before-ok (is_right w v s l) (set_of w s l) (read_sets w b n v m (s + 1) (i + held_l (form_in w) l)) xs (sym (read_sets-step w b n v m s i l q) ∙ e) in
            (set_of w s l, a.0, read_set-holds l q a.2, a.1, a.3)

  pub read_sets-holds : (m s i : ℕ) (xs : List SetState) → 1 ≤ i → i ≤ suc n → record_at (s + m) ≤ length w → read_sets w b n v m s i ≡ ok_sets xs
      → Holds (form_in w) w b n v s i xs × (length xs ≡ m)
  unfolding read_sets node_words used
  read_sets-holds zero s i xs pos le fits e =
      let a : [] ≡ xs = cc in
      let empty : Has w (spot_l (form_in w) v b i) [] = record { fits = omega (arith, spot_l-end (form_in w) room i le); at = λ k l. absurd (omega arith) } in
      subst (λ ys. Holds (form_in w) w b n v s i ys × (length ys ≡ 0)) a (record { rules = refl; records = tt; tags = tt; nodes = empty; within = omega arith }, refl)
  read_sets-holds (suc m) s i xs pos le fits e =
      let p = read_sets-first m s i pos le fits xs e in
      let h = p.2 in
      let g = read_sets-holds m (s + 1) (i + held p.0) p.1 (omega arith) (omega (arith, h.list.within, ap (λ G. held_l G p.0.list) h.form)) (omega arith) p.3 in
      subst (λ ys. Holds (form_in w) w b n v s i ys × (length ys ≡ suc m)) p.4 (holds-cons pos h g.0, ap suc g.1)

-- Set k of sets in words, and the words of the nodes before it and behind it.
pub holds_at : {F : Form} {w : List ℕ} {b n v i : ℕ} (s k : ℕ) (xs : List SetState) → 1 ≤ i → k < length xs → Holds F w b n v s i xs
    → HoldsSet F w b n v (s + k) (first_node k i xs) (get_or xs k no_set)
holds_at s k [] pos lt h = absurd (omega arith)
holds_at s zero (x ∷ xs) pos lt h = let e : s + 0 ≡ s = omega arith in rw e (holds-head pos h)
holds_at {i = i} s (suc k) (x ∷ xs) pos lt h = let e : s + suc k ≡ s + 1 + k = omega arith in rw e (holds_at {i = i + held x} (s + 1) k xs (omega arith) (omega arith) (holds-tail pos h))

pub node_words-at : (v k : ℕ) (xs : List SetState) → k < length xs
    → node_words v xs ≡ node_words v (take k xs) ++ (enc_l (get_or xs k no_set).form v (get_or xs k no_set).list ++ node_words v (drop (suc k) xs))
unfolding node_words
node_words-at v k [] lt = absurd (omega arith)
node_words-at v zero (x ∷ xs) lt = refl
node_words-at v (suc k) (x ∷ xs) lt = rw (node_words-at v k xs (omega arith)) (sym (append_assoc (enc_l x.form v x.list) (node_words v (take k xs)) _))

pub first_node-is : (F : Form) (v k i : ℕ) (xs : List SetState) → are_sets F v xs ≡ true → k < length xs → first_node k i xs ≡ i + used (take k xs)
unfolding used
first_node-is F v k i [] e lt = absurd (omega arith)
first_node-is F v zero i (x ∷ xs) e lt = omega arith
first_node-is F v (suc k) i (x ∷ xs) e lt = omega (arith, first_node-is F v k (i + held x) xs (are_sets-tail F v x xs e) (omega arith))
