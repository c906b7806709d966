-- Layout: a turn of each of its loops, whose invariant says that what is still to come completes the whole; the rules of a setup, taken apart; the words that it leaves.
-- Assumes nothing.
use mathlib.Core.Bool.{true, false, cond, ◌&&◌, ◌||◌, and-false}
use mathlib.Core.List.{List, [], ◌∷◌, ◌++◌}
use mathlib.Core.Path.{◌≡◌, refl, sym, ap, ◌∙◌}
use Prim.Native.Nat.{ℕ, zero, suc, ◌+◌, ◌-◌, ◌*◌, ◌/◌, ◌%◌, ◌≤◌, ◌<◌}
use native.Mathlib.Nat.{zero-add}
use native.Mathlib.Numerals.{add-one}
use native.Mathlib.Omega.{arith}
use lib.Dec.{eqb, leb}
use lib.ListN.{length, get_or, set, drop, replicate, length-set, drop_of_length-le}
use lib.Seq.{drop-cons}
use borrow.Author.Tests.{le-leb, lt-leb, eq-eqb, ne_eqb, leb-true, eqb-true}
use Rattle.nets.specs.Bits.{digit}
use Rattle.nets.proofs.Strings.{and_left, and_right, bool_iff}
use Rattle.nets.specs.Tries.{Trie, none, trie_of}
use Rattle.nodes.specs.Words.{put}
use Rattle.nodes.specs.Parse.{Room}
use Rattle.trie_index.specs.Index.{index_t, Rooted}
use Rattle.pool_state.proofs.Kept.{held_l-nil, enc_l-nil}
use Rattle.pool_state.specs.Kept.{Form, first, form_no, form_of, held_l, index_l}
use Rattle.pool_state.specs.States.{indexed_of, is_size}
use Rattle.nets.specs.Networks.{is_family}
use Rattle.pool_state.specs.Decode.{mark, record_at, least_words, over_records, node_words, over_sets, tag_of, index_words, over_indexes, over, is_form}
use Rattle.pool_state.specs.Rules.{within_limits, total, shares_fit, Setup, marks_fit, marks, words_of, is_formed, is_setup, layout_no, empty_sets, blanks, laid, Laid}
use Rattle.nodes.proofs.Put.{put-nil, length-put, set-put, put-behind-at}

-- the total of a share x and others, against n nodes
module _ (n x : ℕ) (xs : List ℕ) where
  total-past : n < x → leb (total (x ∷ xs)) n ≡ false
  unfolding total
  total-past l = lt-leb (x + total xs) n (omega arith)

  total-rest : x ≤ n → leb (total (x ∷ xs)) n ≡ leb (total xs) (n - x)
  unfolding total
  total-rest l =
      bool_iff (leb (x + total xs) n) (leb (total xs) (n - x))
      (λ h. le-leb (total xs) (n - x) (omega (arith, leb-true (x + total xs) n h)))
      (λ h. le-leb (x + total xs) n (omega (arith, leb-true (total xs) (n - x) h)))

-- shares_fit: the shares from s on, for which so many nodes are left
pub record Sharing (sets nodes : ℕ) (shares limits : List ℕ) (left s : ℕ) : Type 0 where
  pub share : length shares ≡ sets
  pub limit : length limits ≡ sets
  pub within : s ≤ sets
  pub rest : (within_limits (drop s shares) (drop s limits) && leb (total (drop s shares)) left) ≡ shares_fit sets nodes shares limits

module _ (sets nodes : ℕ) (shares limits : List ℕ) where
  pub shares_fit-no-share : (length shares ≡ sets → ⊥) → false ≡ shares_fit sets nodes shares limits
  unfolding shares_fit
  shares_fit-no-share f = rw (ne_eqb (length shares) sets f)

  pub shares_fit-no-limit : length shares ≡ sets → (length limits ≡ sets → ⊥) → false ≡ shares_fit sets nodes shares limits
  unfolding shares_fit
  shares_fit-no-limit e f = rw (eq-eqb (length shares) sets e, ne_eqb (length limits) sets f)

  pub shares_fit-start : length shares ≡ sets → length limits ≡ sets → Sharing sets nodes shares limits nodes 0
  unfolding shares_fit
  shares_fit-start e f = record { share = e; limit = f; within = omega arith; rest = rw (eq-eqb (length shares) sets e, eq-eqb (length limits) sets f) }

module _ {sets nodes : ℕ} {shares limits : List ℕ} {left s : ℕ} (h : Sharing sets nodes shares limits left s) where
  module _ (l : s < sets) where
    shares_fit-here :
        let x = get_or shares s 0 in
        (leb x (get_or limits s 0) && within_limits (drop (s + 1) shares) (drop (s + 1) limits) && leb (total (x ∷ drop (s + 1) shares)) left)
        ≡ shares_fit sets nodes shares limits
    shares_fit-here =
        let k : s < length shares = omega arith in
        let m : s < length limits = omega arith in
        rw (add-one s) (rw (drop-cons shares s 0 k, drop-cons limits s 0 m) at h.rest)

    pub shares_fit-over : get_or limits s 0 < get_or shares s 0 → false ≡ shares_fit sets nodes shares limits
    shares_fit-over g = rw (lt-leb (get_or shares s 0) (get_or limits s 0) g) at shares_fit-here

    pub shares_fit-past : left < get_or shares s 0 → false ≡ shares_fit sets nodes shares limits
    shares_fit-past g = rw (total-past left (get_or shares s 0) (drop (s + 1) shares) g, and-false) at shares_fit-here

    pub shares_fit-turn : get_or shares s 0 ≤ get_or limits s 0 → get_or shares s 0 ≤ left → Sharing sets nodes shares limits (left - get_or shares s 0) (s + 1)
    shares_fit-turn g k = record {
      share = h.share;
      limit = h.limit;
      within = omega arith;
      rest = rw (le-leb (get_or shares s 0) (get_or limits s 0) g, total-rest left (get_or shares s 0) (drop (s + 1) shares) k) at shares_fit-here;
    }

  pub shares_fit-end : sets ≤ s → true ≡ shares_fit sets nodes shares limits
  unfolding total
  shares_fit-end l = let k : length shares ≤ s = omega arith in sym (le-leb 0 left (omega arith)) ∙ rw (drop_of_length-le shares k) at h.rest

-- is_setup: the rules that a setup keeps, taken apart
pub record Kept (words : ℕ) (p : Setup) : Type 0 where
  pub family : is_family p.family ≡ true
  pub form : is_formed p.form p.indexed ≡ true
  pub size : is_size p.sets p.nodes ≡ true
  pub marks : marks_fit p.sets p.indexed ≡ true
  pub room : words_of p ≤ words
  pub share : length p.shares ≡ p.sets
  pub limit : length p.limits ≡ p.sets
  pub within : within_limits p.shares p.limits ≡ true
  pub total : total p.shares ≤ p.nodes

pub is_setup-kept : (words : ℕ) (s : Setup) → is_setup words s ≡ true → Kept words s
unfolding is_setup shares_fit
is_setup-kept words s e =
    let o = is_family s.family && is_formed s.form s.indexed in
    let p = o && is_size s.sets s.nodes in
    let m = marks_fit s.sets s.indexed in
    let q = leb (words_of s) words in
    let a = eqb (length s.shares) s.sets in
    let b = eqb (length s.limits) s.sets in
    let c = within_limits s.shares s.limits in
    let d = leb (total s.shares) s.nodes in
    let f = and_left (p && m && q) (a && b && (c && d)) e in
    let g = and_right (p && m && q) (a && b && (c && d)) e in
    let l = and_left (p && m) q f in
    let h = and_left (a && b) (c && d) g in
    let k = and_right (a && b) (c && d) g in
    record {
      family = and_left (is_family s.family) (is_formed s.form s.indexed) (and_left o (is_size s.sets s.nodes) (and_left p m l));
      form = and_right (is_family s.family) (is_formed s.form s.indexed) (and_left o (is_size s.sets s.nodes) (and_left p m l));
      size = and_right o (is_size s.sets s.nodes) (and_left p m l);
      marks = and_right p m l;
      room = leb-true (words_of s) words (and_right (p && m) q f);
      share = eqb-true (length s.shares) s.sets (and_left a b h);
      limit = eqb-true (length s.limits) s.sets (and_right a b h);
      within = and_left c d k;
      total = leb-true (total s.shares) s.nodes (and_right c d k);
    }

-- stores one behind the other are one write
put-set : (w : List ℕ) (p q v : ℕ) (xs : List ℕ) → q ≡ p + 1 → put (set w p v) q xs ≡ put w p (v ∷ xs)
put-set w p q v xs e = rw (set-put w p v) (put-behind-at w p q (v ∷ []) xs e)

set-four : (w : List ℕ) (a b c d : ℕ) → set (set (set (set w 0 a) 1 b) 2 c) 3 d ≡ put w 0 (a ∷ b ∷ c ∷ d ∷ [])
set-four w a b c d =
    set-put (set (set (set w 0 a) 1 b) 2 c) 3 d
    ∙ put-set (set (set w 0 a) 1 b) 2 3 c (d ∷ []) refl
    ∙ put-set (set w 0 a) 1 2 b (c ∷ d ∷ []) refl
    ∙ put-set w 0 1 a (b ∷ c ∷ d ∷ []) refl

pub set-header : (w : List ℕ) (a b c d o : ℕ) → set (set (set (set (set w 0 a) 1 b) 2 c) 3 d) 5 o ≡ put (put w 0 (a ∷ b ∷ c ∷ d ∷ [])) 5 (o ∷ [])
set-header w a b c d o = set-put _ 5 o ∙ ap (λ u. put u 5 (o ∷ [])) (set-four w a b c d)

set-record : (w : List ℕ) (p x y z : ℕ) → set (set (set (set w p 0) (p + 1) x) (p + 2) y) (p + 3) z ≡ put w p (0 ∷ x ∷ y ∷ z ∷ [])
set-record w p x y z =
    set-put (set (set (set w p 0) (p + 1) x) (p + 2) y) (p + 3) z
    ∙ put-set (set (set w p 0) (p + 1) x) (p + 2) (p + 3) y (z ∷ []) (omega arith)
    ∙ put-set (set w p 0) (p + 1) (p + 2) x (y ∷ z ∷ []) (omega arith)
    ∙ put-set w p (p + 1) 0 (x ∷ y ∷ z ∷ []) refl

-- clear: zeros before what is left
pub zeros-put : (w : List ℕ) (n : ℕ) → n ≤ length w → replicate n 0 ++ drop n w ≡ put w 0 (replicate n 0)
unfolding put
zeros-put w zero le = sym (put-nil w 0)
zeros-put [] (suc n) le = absurd (omega arith)
zeros-put (x ∷ w) (suc n) le = ap (λ l. 0 ∷ l) (zeros-put w n (omega arith))

-- records: the sets from s on
pub record Recording (shares limits w₀ w : List ℕ) (s : ℕ) : Type 0 where
  pub within : s ≤ length shares
  pub long : length w ≡ length w₀
  pub rest : over_records w s 1 (empty_sets first (drop s shares) (drop s limits) 0) ≡ over_records w₀ 0 1 (empty_sets first shares limits 0)

pub records-start : (shares limits w : List ℕ) → Recording shares limits w w 0
records-start shares limits w = record { within = omega arith; long = refl; rest = refl }

over_records-empty : (w : List ℕ) (s x y : ℕ) (shares limits : List ℕ) →
    over_records (put w (record_at s) (0 ∷ x ∷ y ∷ 0 ∷ [])) (s + 1) 1 (empty_sets first shares limits 0) ≡ over_records w s 1 (empty_sets first (x ∷ shares) (y ∷ limits) 0)
unfolding over_records
over_records-empty w s x y shares limits =
    ap (λ n. over_records (put w (record_at s) (0 ∷ x ∷ y ∷ 0 ∷ [])) (s + 1) (1 + n) (empty_sets first shares limits 0)) (sym (held_l-nil first))

module _ {shares limits w₀ w : List ℕ} {s : ℕ} (h : Recording shares limits w₀ w s) where
  pub records-turn : length shares ≡ length limits → s < length shares →
      Recording shares limits w₀ (set (set (set (set w (record_at s) 0) (record_at s + 1) (get_or shares s 0)) (record_at s + 2) (get_or limits s 0)) (record_at s + 3) 0) (s + 1)
  records-turn e l = record {
    within = omega arith;
    long = simp length-set h.long;
    rest =
        let k : s < length limits = omega arith in
        let r = rw (drop-cons shares s 0 l, drop-cons limits s 0 k, ← over_records-empty) at h.rest in
        rw (set-record w (record_at s) (get_or shares s 0) (get_or limits s 0) 0) (rw (← add-one s) at r);
  }

  pub records-end : length shares ≤ s → w ≡ over_records w₀ 0 1 (empty_sets first shares limits 0)
  unfolding over_records
  records-end l = rw (drop_of_length-le shares l) at h.rest

-- empty sets: as many as there are shares, no node, and as many of them indexed as the number has marks; their records do not tell which, and their tags and indexes tell nothing else
pub length-empty_sets : (F : Form) (shares limits : List ℕ) (z : ℕ) → length shares ≡ length limits → length (empty_sets F shares limits z) ≡ length shares
length-empty_sets F [] limits z e = refl
length-empty_sets F (x ∷ shares) [] z e = absurd (omega arith)
length-empty_sets F (x ∷ shares) (y ∷ limits) z e = ap suc (length-empty_sets F shares limits (z / 2) (omega arith))

node_words-empty_sets : (F : Form) (v : ℕ) (shares limits : List ℕ) (z : ℕ) → node_words v (empty_sets F shares limits z) ≡ []
unfolding node_words
node_words-empty_sets F v [] limits z = refl
node_words-empty_sets F v (x ∷ shares) [] z = refl
node_words-empty_sets F v (x ∷ shares) (y ∷ limits) z = rw (enc_l-nil F v) (node_words-empty_sets F v shares limits (z / 2))

digit-mod : (z : ℕ) → digit (eqb (z % 2) 1) ≡ z % 2
digit-mod z = go (z % 2) (omega arith)
  where
    go : (n : ℕ) → n < 2 → digit (eqb n 1) ≡ n
    go zero l = refl
    go (suc zero) l = refl
    go (suc (suc n)) l = absurd (omega arith)

pub indexed_of-empty_sets : (F : Form) (shares limits : List ℕ) (z : ℕ) → length shares ≡ length limits → indexed_of (empty_sets F shares limits z) ≡ marks (length shares) z
unfolding indexed_of marks
indexed_of-empty_sets F [] limits z e = refl
indexed_of-empty_sets F (x ∷ shares) [] z e = absurd (omega arith)
indexed_of-empty_sets F (x ∷ shares) (y ∷ limits) z e = rw (digit-mod z, indexed_of-empty_sets F shares limits (z / 2) (omega arith))

over_records-marks : (F : Form) (w : List ℕ) (s i : ℕ) (shares limits : List ℕ) (z : ℕ) → over_records w s i (empty_sets first shares limits 0) ≡ over_records w s i (empty_sets F shares limits z)
unfolding over_records
over_records-marks F w s i [] limits z = refl
over_records-marks F w s i (x ∷ shares) [] z = refl
over_records-marks F w s i (x ∷ shares) (y ∷ limits) z =
    let u = put w (record_at s) (0 ∷ x ∷ y ∷ 0 ∷ []) in
    ap (λ n. over_records u (s + 1) (i + n) (empty_sets first shares limits 0)) (held_l-nil first ∙ sym (held_l-nil F)) ∙ over_records-marks F u (s + 1) (i + held_l F []) shares limits (z / 2)

over_indexes-blanks : (F : Form) (w : List ℕ) (m s j : ℕ) (shares limits : List ℕ) (z : ℕ) → length shares ≡ length limits
    → over_indexes w m s j (blanks (length shares) z) ≡ over_indexes w m s j (empty_sets F shares limits z)
unfolding over_indexes
over_indexes-blanks F w m s j [] limits z e = refl
over_indexes-blanks F w m s j (x ∷ shares) [] z e = absurd (omega arith)
over_indexes-blanks F w m s j (x ∷ shares) (y ∷ limits) z e =
    over_indexes-blanks F (put (put w (record_at s + 4) (tag_of (eqb (z % 2) 1) j ∷ [])) (m + 256 * j) (index_words (record { share = 0; limit = 0; public = false; indexed = eqb (z % 2) 1; form = first; list = [] }))) m (s + 1) (j + digit (eqb (z % 2) 1)) shares limits (z / 2) (omega arith)

-- The marks: what is left of the number, for the sets that are left, completes the count, and decides whether all are of sets.
pub record Marking (sets z left x n : ℕ) : Type 0 where
  pub count : n + marks left x ≡ marks sets z
  pub fit : marks_fit left x ≡ marks_fit sets z
  pub few : n + left ≤ sets

pub marking-start : (sets z : ℕ) → Marking sets z sets z 0
marking-start sets z = record { count = zero-add (marks sets z); fit = refl; few = omega arith }

module _ {sets z left x n : ℕ} (h : Marking sets z left x n) where
  pub marking-turn : 0 < left → Marking sets z (left - 1) (x / 2) (n + x % 2)
  unfolding marks marks_fit
  marking-turn lt =
      let e : left ≡ suc (left - 1) = omega arith in
      record { count = omega (arith, rw e at h.count); fit = rw e at h.fit; few = omega (arith, h.few) }

  pub marking-count : left ≤ 0 → n ≡ marks sets z
  unfolding marks
  marking-count le = let e : left ≡ 0 = omega arith in omega (arith, rw e at h.count)

  pub marking-fit : left ≤ 0 → eqb x 0 ≡ marks_fit sets z
  unfolding marks_fit
  marking-fit le = let e : left ≡ 0 = omega arith in rw e at h.fit

-- the start and a turn, by how many sets were passed
pub marking-from : (sets z : ℕ) → Marking sets z (sets - 0) z 0
marking-from sets z = let e : sets - 0 ≡ sets = omega arith in rw e (marking-start sets z)

pub marking-next : {sets z s x n : ℕ} → Marking sets z (sets - s) x n → s < sets → Marking sets z (sets - (s + 1)) (x / 2) (n + x % 2)
marking-next {sets} {z} {s} h lt = let e : sets - s - 1 ≡ sets - (s + 1) = omega arith in rw e at (marking-turn h (omega arith))

-- the tag and the index of one empty set: it has no root
pub blank-rooted : (w : List ℕ) → 64 ≤ length w → Room w 64 0 × ((t : Trie) × Rooted w 64 0 0 t)
blank-rooted w le = (record { low = omega arith; few = omega arith; long = omega arith }, (none, record { empty = λ e. refl; some = λ ne. absurd (ne refl) }))

pub blank-indexed : (w : List ℕ) (p q x : ℕ) {v : List ℕ} → ((t : Trie) → Rooted (set w p x) 64 0 0 t → v ≡ put (set w p x) q (index_t t)) → v ≡ put (put w p (x ∷ [])) q (index_l [])
unfolding index_l trie_of
blank-indexed w p q x f = f none (record { empty = λ e. refl; some = λ ne. absurd (ne refl) }) ∙ ap (λ u. put u q (index_t none)) (set-put w p x)

pub blank-length : (w : List ℕ) (p q x : ℕ) {v : List ℕ} → ((t : Trie) → Rooted (set w p x) 64 0 0 t → v ≡ put (set w p x) q (index_t t)) → length v ≡ length w
blank-length w p q x f = ap length (blank-indexed w p q x f) ∙ length-put (put w p (x ∷ [])) q (index_l []) ∙ length-put w p (x ∷ [])

pub blank-plain : (w : List ℕ) (p q : ℕ) → set w p 0 ≡ put (put w p (0 ∷ [])) q []
blank-plain w p q = set-put w p 0 ∙ sym (put-nil (put w p (0 ∷ [])) q)

-- indexes: the tags and indexes of the sets from s on, of which the number x marks those that are indexed
pub record Indexing (at sets z : ℕ) (w₀ w : List ℕ) (s j x : ℕ) : Type 0 where
  pub long : length w ≡ length w₀
  pub within : s ≤ sets
  pub few : j ≤ s
  pub room : at + 256 * (j + marks (sets - s) x) ≤ length w₀
  pub rest : over_indexes w at s j (blanks (sets - s) x) ≡ over_indexes w₀ at 0 0 (blanks sets z)

pub indexing-start : (at sets z : ℕ) (w : List ℕ) → at + 256 * marks sets z ≤ length w → Indexing at sets z w w 0 0 z
indexing-start at sets z w le =
    let e : sets - 0 ≡ sets = omega arith in
    record { long = refl; within = omega arith; few = omega arith; room = rw (e, zero-add (marks sets z)) le; rest = rw e }

module _ {at sets z : ℕ} {w₀ w : List ℕ} {s j x : ℕ} (h : Indexing at sets z w₀ w s j x) where
  pub indexing-fits : s < sets → at + 256 * (j + digit (eqb (x % 2) 1)) ≤ length w
  unfolding marks
  indexing-fits lt = let e : sets - s ≡ suc (sets - (s + 1)) = omega arith in omega (arith, h.long, rw e at h.room, digit-mod x)

  pub indexing-turn : s < sets → {u : List ℕ} {i : ℕ} → i ≡ j + digit (eqb (x % 2) 1)
      → u ≡ put (put w (record_at s + 4) (tag_of (eqb (x % 2) 1) j ∷ [])) (at + 256 * j) (cond (eqb (x % 2) 1) (index_l []) []) → Indexing at sets z w₀ u (s + 1) i (x / 2)
  unfolding marks over_indexes
  indexing-turn lt {u} {i} q p =
      let e : sets - s ≡ suc (sets - (s + 1)) = omega arith in
      let d = digit-mod x in
      record {
        long = rw p (length-put _ _ _ ∙ length-put _ _ _ ∙ h.long);
        within = omega arith;
        few = omega (arith, h.few, q, d);
        room = omega (arith, q, d, rw e at h.room);
        rest = rw (p, q) (rw e at h.rest);
      }

  pub indexing-end : sets ≤ s → put w 4 (j ∷ []) ≡ over_indexes w₀ at 0 0 (blanks sets z)
  unfolding over_indexes
  indexing-end le = let e : sets - s ≡ 0 = omega arith in rw e at h.rest

-- layout: the two answers, by the test and what the writes leave
abbrev pub headed : List ℕ → Setup → List ℕ
headed w p = put (put w 0 (mark ∷ p.family ∷ p.sets ∷ p.nodes ∷ [])) 5 (p.form ∷ [])

module _ (w : List ℕ) (p : Setup) where
  formed-no : is_formed p.form p.indexed ≡ true → p.form ≡ form_no (form_of p.form)
  unfolding is_form is_formed
  formed-no e =
      eqb-true p.form (form_no (form_of p.form)) (and_left (is_form p.form) (eqb p.form 0 || eqb p.indexed 0) e)

  laid-is : is_formed p.form p.indexed ≡ true → length p.shares ≡ p.sets → length p.limits ≡ p.sets →
      laid w p
      ≡ over_indexes (over_records (headed (put w 0 (replicate (words_of p) 0)) p) 0 1 (empty_sets first p.shares p.limits 0))
      (least_words p.sets p.nodes 0) 0 0 (blanks p.sets p.indexed)
  unfolding laid over over_sets
  laid-is o e f =
      let g = e ∙ sym f in
      let F = form_of p.form in
      let n : length (empty_sets F p.shares p.limits p.indexed) ≡ p.sets = length-empty_sets F p.shares p.limits p.indexed g ∙ e in
      let m = least_words p.sets p.nodes 0 in
      let x = headed (put w 0 (replicate (words_of p) 0)) p in
      let y = over_records x 0 1 (empty_sets first p.shares p.limits 0) in
      rw (n, node_words-empty_sets F p.family p.shares p.limits p.indexed, put-nil, ← formed-no o)
      (ap (λ v. over_indexes v m 0 0 (empty_sets F p.shares p.limits p.indexed)) (sym (over_records-marks F x 0 1 p.shares p.limits p.indexed))
      ∙ sym (over_indexes-blanks F y m 0 0 p.shares p.limits p.indexed g)
      ∙ ap (λ k. over_indexes y m 0 0 (blanks k p.indexed)) e)

  pub layout-granted : is_setup (length w) p ≡ true → (n : ℕ) (u v y z : List ℕ) → n ≡ words_of p →
      u ≡ put w 0 (replicate n 0) → v ≡ headed u p → y ≡ over_records v 0 1 (empty_sets first p.shares p.limits 0)
      → z ≡ over_indexes y (least_words p.sets p.nodes 0) 0 0 (blanks p.sets p.indexed) → Laid w p (0, 0) z
  unfolding layout_no
  layout-granted h n u v y z e a b c d =
      let k = is_setup-kept (length w) p h in
      record { answer = rw h; words = rw (h, laid-is k.form k.share k.limit, ← e, ← a, ← b, ← c) d }

  pub layout-refused : is_setup (length w) p ≡ false → Laid w p (1, 0) w
  unfolding layout_no
  layout-refused h = record { answer = rw h; words = rw h }
