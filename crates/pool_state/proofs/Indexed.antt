-- Tags and indexes in words: `are_indexes` says that those of the sets stand there (`Indexes`). Written they stand there, and nothing else changes; where they stand, to write them changes
-- nothing; and of sets of which one has another list, to write them writes the index of that one. Assumes nothing.
use mathlib.Core.Path.{◌≡◌, refl, sym, ap, ◌∙◌}
use mathlib.Core.Bool.{Bool, true, false, not, cond, ◌&&◌}
use mathlib.Core.List.{List, [], ◌∷◌}
use Prim.Native.Nat.{ℕ, zero, suc, ◌+◌, ◌*◌, ◌≤◌, ◌<◌}
use native.Mathlib.Nat.{add-zero}
use native.Mathlib.Omega.{arith}
use lib.Dec.{eqb}
use lib.ListN.{length, get_or, take}
use borrow.Author.Tests.{eq-eqb, ne_eqb, eqb-true}
use Rattle.nets.specs.Bits.{Bits, digit}
use Rattle.nets.proofs.Strings.{and_left, and_right}
use Rattle.nodes.specs.Words.{put, Has}
use Rattle.nodes.proofs.Put.{length-put, get_or-put-before, get_or-put-behind, get_or-put-out}
use Rattle.nodes.proofs.Has.{has-put, put_has, has-head, has-cons, has_same}
use Rattle.trie_index.specs.Index.{fill, index_t, is_at}
use Rattle.trie_index.proofs.Fill.{length-fill, is_at-has, has-is_at}
use Rattle.pool_state.specs.Kept.{index_l}
use Rattle.pool_state.specs.States.{SetState, indexed_of}
use Rattle.pool_state.specs.Decode.{record_at, tag_of, index_words, over_indexes, are_indexes}
use Rattle.pool_state.specs.Rules.{no_set}
use Rattle.pool_state.specs.Changes.{sets_with}
use Rattle.pool_state.proofs.Holds.{AllTagged}

-- what stands in words stands in others that are the same there
pub has-keep : {u w : List ℕ} {p : ℕ} {xs : List ℕ} → length u ≡ length w → ((k : ℕ) → k < length xs → get_or u (p + k) 0 ≡ get_or w (p + k) 0) → Has w p xs → Has u p xs
has-keep e f h = record { fits = rw e h.fits; at = λ k l. f k l ∙ h.at k l }

has_word : (w : List ℕ) (p x : ℕ) → p + 1 ≤ length w → get_or w p 0 ≡ x → Has w p (x ∷ [])
has_word w p x le e = has-cons e (record { fits = omega arith; at = λ k l. absurd (omega arith) })

length-index_l : (l : List Bits) → length (index_l l) ≡ 256
unfolding index_l index_t
length-index_l l = length-fill _ 256 0

pub length-index_words : (x : SetState) → length (index_words x) ≡ 256 * digit x.indexed
length-index_words x = go x.indexed
  where
    go : (c : Bool) → length (cond c (index_l x.list) []) ≡ 256 * digit c
    go true = length-index_l x.list
    go false = refl

-- the tags and the indexes of sets, from set s and index j on, the first index at m
abbrev pub Indexes : List ℕ → ℕ → ℕ → ℕ → List SetState → Type 0
Indexes w m s j [] = Has w 4 (j ∷ [])
Indexes w m s j (x ∷ xs) = Has w (record_at s + 4) (tag_of x.indexed j ∷ []) × Has w (m + 256 * j) (index_words x) × Indexes w m (s + 1) (j + digit x.indexed) xs

-- They are as many as word 4 says.
pub are_indexes-count : (w : List ℕ) (m s j : ℕ) (xs : List SetState) → are_indexes w m s j xs ≡ true → get_or w 4 0 ≡ j + indexed_of xs
unfolding are_indexes indexed_of
are_indexes-count w m s j [] e = eqb-true (get_or w 4 0) j e ∙ sym (add-zero j)
are_indexes-count w m s j (x ∷ xs) e =
    let a = eqb (get_or w (record_at s + 4) 0) (tag_of x.indexed j) && is_at w (m + 256 * j) (index_words x) in
    omega (arith, are_indexes-count w m (s + 1) (j + digit x.indexed) xs (and_right a (are_indexes w m (s + 1) (j + digit x.indexed) xs) e))

pub indexes-count : (w : List ℕ) (m s j : ℕ) (xs : List SetState) → Indexes w m s j xs → get_or w 4 0 ≡ j + indexed_of xs
unfolding indexed_of
indexes-count w m s j [] h = has-head h ∙ sym (add-zero j)
indexes-count w m s j (x ∷ xs) h = omega (arith, indexes-count w m (s + 1) (j + digit x.indexed) xs h.2)

-- The test says that they stand there, and says yes where they do.
pub are_indexes-is : (w : List ℕ) (m s j : ℕ) (xs : List SetState) → 5 ≤ length w → record_at (s + length xs) ≤ length w → m + 256 * (j + indexed_of xs) ≤ length w → are_indexes w m s j xs ≡ true
    → Indexes w m s j xs
unfolding are_indexes indexed_of
are_indexes-is w m s j [] a b c e = has_word w 4 j a (eqb-true (get_or w 4 0) j e)
are_indexes-is w m s j (x ∷ xs) a b c e =
    let t = eqb (get_or w (record_at s + 4) 0) (tag_of x.indexed j) in
    let i = is_at w (m + 256 * j) (index_words x) in
    let r = are_indexes w m (s + 1) (j + digit x.indexed) xs in
    let f = and_left (t && i) r e in (
      has_word w (record_at s + 4) (tag_of x.indexed j) (omega arith) (eqb-true (get_or w (record_at s + 4) 0) (tag_of x.indexed j) (and_left t i f)),
      is_at-has (m + 256 * j) (index_words x) (omega (arith, length-index_words x)) (and_right t i f),
      are_indexes-is w m (s + 1) (j + digit x.indexed) xs a (omega arith) (omega arith) (and_right (t && i) r e),
    )

pub is-are_indexes : (w : List ℕ) (m s j : ℕ) (xs : List SetState) → Indexes w m s j xs → are_indexes w m s j xs ≡ true
unfolding are_indexes
is-are_indexes w m s j [] h = eq-eqb (get_or w 4 0) j (has-head h)
is-are_indexes w m s j (x ∷ xs) h =
    rw (eq-eqb (get_or w (record_at s + 4) 0) (tag_of x.indexed j) (has-head h.0), has-is_at (m + 256 * j) (index_words x) h.1) (is-are_indexes w m (s + 1) (j + digit x.indexed) xs h.2)

-- Where they stand, to write them changes nothing.
pub indexes-same : (w : List ℕ) (m s j : ℕ) (xs : List SetState) → Indexes w m s j xs → over_indexes w m s j xs ≡ w
unfolding over_indexes
indexes-same w m s j [] h = has_same h
indexes-same w m s j (x ∷ xs) h = rw (has_same h.0, has_same h.1) (indexes-same w m (s + 1) (j + digit x.indexed) xs h.2)

-- Written, they leave every other word,
pub length-over_indexes : (w : List ℕ) (m s j : ℕ) (xs : List SetState) → length (over_indexes w m s j xs) ≡ length w
unfolding over_indexes
length-over_indexes w m s j [] = length-put w 4 (j ∷ [])
length-over_indexes w m s j (x ∷ xs) =
    let u = put w (record_at s + 4) (tag_of x.indexed j ∷ []) in
    length-over_indexes (put u (m + 256 * j) (index_words x)) m (s + 1) (j + digit x.indexed) xs ∙ length-put u (m + 256 * j) (index_words x) ∙ length-put w (record_at s + 4) (tag_of x.indexed j ∷ [])

-- place k is none of the tags' of n sets from set s on, nor word 4
abbrev pub Beside : ℕ → ℕ → ℕ → Type 0
Beside s n k = (k ≡ 4 → ⊥) × ((t : ℕ) → s ≤ t → t < s + n → k ≡ record_at t + 4 → ⊥)

pub get_or-over_indexes : (w : List ℕ) (m s j : ℕ) (xs : List SetState) (k : ℕ) → Beside s (length xs) k → k < m + 256 * j → get_or (over_indexes w m s j xs) k 0 ≡ get_or w k 0
unfolding over_indexes
get_or-over_indexes w m s j [] k f lt = get_or-put-out w 4 (j ∷ []) k (λ a b. f.0 (omega arith))
get_or-over_indexes w m s j (x ∷ xs) k f lt =
    let u = put w (record_at s + 4) (tag_of x.indexed j ∷ []) in
    get_or-over_indexes (put u (m + 256 * j) (index_words x)) m (s + 1) (j + digit x.indexed) xs k (f.0, λ t a b. f.1 t (omega arith) (omega arith)) (omega arith)
    ∙ get_or-put-before u (m + 256 * j) (index_words x) k lt
    ∙ get_or-put-out w (record_at s + 4) (tag_of x.indexed j ∷ []) k (λ a b. f.1 s (omega arith) (omega arith) (omega arith))

-- and stand there.
pub over_indexes-has : (w : List ℕ) (m s j : ℕ) (xs : List SetState) → record_at (s + length xs) ≤ m → m + 256 * (j + indexed_of xs) ≤ length w → Indexes (over_indexes w m s j xs) m s j xs
unfolding over_indexes indexed_of
over_indexes-has w m s j [] b c = put_has w 4 (j ∷ []) (omega arith)
over_indexes-has w m s j (x ∷ xs) b c =
    let p = record_at s + 4 in
    let ts = tag_of x.indexed j ∷ [] in
    let q = m + 256 * j in
    let is = index_words x in
    let n = length-index_words x in
    let u = put w p ts in
    let v = put u q is in
    let i = j + digit x.indexed in
    let e = length-over_indexes v m (s + 1) i xs in
    let lu = length-put w p ts in
    let lv = length-put u q is in (
      has-keep e (λ k lt. get_or-over_indexes v m (s + 1) i xs (p + k) (omega arith, λ t a d. omega arith) (omega arith)) (has-put q is (put_has w p ts (omega arith)) (λ k a d f g. omega arith)),
      has-keep e (λ k lt. get_or-over_indexes v m (s + 1) i xs (q + k) (omega arith, λ t a d. omega arith) (omega arith)) (put_has u q is (omega arith)),
      over_indexes-has v m (s + 1) i xs (omega arith) (omega arith),
    )

-- They stand in words that are the same there.
pub indexes-keep : (u w : List ℕ) (m s j : ℕ) (xs : List SetState) → length u ≡ length w → get_or u 4 0 ≡ get_or w 4 0
    → ((t : ℕ) → s ≤ t → t < s + length xs → get_or u (record_at t + 4) 0 ≡ get_or w (record_at t + 4) 0) → ((k : ℕ) → m + 256 * j ≤ k → get_or u k 0 ≡ get_or w k 0)
    → Indexes w m s j xs → Indexes u m s j xs
indexes-keep u w m s j [] e c f g h = has-keep e (λ k lt. let z : 4 + k ≡ 4 = omega arith in rw z c) h
indexes-keep u w m s j (x ∷ xs) e c f g h = (
  has-keep e (λ k lt. let z : record_at s + 4 + k ≡ record_at s + 4 = omega arith in rw z (f s (omega arith) (omega arith))) h.0,
  has-keep e (λ k lt. g (m + 256 * j + k) (omega arith)) h.1,
  indexes-keep u w m (s + 1) (j + digit x.indexed) xs e c (λ t a b. f t (omega arith) (omega arith)) (λ k a. g k (omega arith)) h.2,
)

-- The tag and the index of set k, and which sets are indexed.
module _ (w : List ℕ) (m : ℕ) where
  pub indexes-tag : (k s j : ℕ) (ss : List SetState) → k < length ss → Indexes w m s j ss → get_or w (record_at (s + k) + 4) 0 ≡ tag_of (get_or ss k no_set).indexed (j + indexed_of (take k ss))
  unfolding indexed_of
  indexes-tag k s j [] lt h = absurd (omega arith)
  indexes-tag zero s j (x ∷ xs) lt h = rw (add-zero s, add-zero j) (has-head h.0)
  indexes-tag (suc k) s j (x ∷ xs) lt h =
      let a : s + suc k ≡ s + 1 + k = omega arith in
      let b : j + (digit x.indexed + indexed_of (take k xs)) ≡ j + digit x.indexed + indexed_of (take k xs) = omega arith in
      rw (a, b) (indexes-tag k (s + 1) (j + digit x.indexed) xs (omega arith) h.2)

  pub indexes-at : (k s j : ℕ) (ss : List SetState) → k < length ss → Indexes w m s j ss → Has w (m + 256 * (j + indexed_of (take k ss))) (index_words (get_or ss k no_set))
  unfolding indexed_of
  indexes-at k s j [] lt h = absurd (omega arith)
  indexes-at zero s j (x ∷ xs) lt h = rw (add-zero j) h.1
  indexes-at (suc k) s j (x ∷ xs) lt h =
      let b : j + (digit x.indexed + indexed_of (take k xs)) ≡ j + digit x.indexed + indexed_of (take k xs) = omega arith in
      rw b (indexes-at k (s + 1) (j + digit x.indexed) xs (omega arith) h.2)

  pub indexes-tagged : (s j : ℕ) (ss : List SetState) → Indexes w m s j ss → AllTagged w s ss
  indexes-tagged s j [] h = tt
  indexes-tagged s j (x ∷ xs) h = (ap (λ z. not (eqb z 0)) (has-head h.0) ∙ go x.indexed, indexes-tagged (s + 1) (j + digit x.indexed) xs h.2)
    where
      go : (c : Bool) → not (eqb (tag_of c j) 0) ≡ c
      go true = rw (ne_eqb (suc j) 0 (omega arith))
      go false = refl

pub indexed-few : (ss : List SetState) → indexed_of ss ≤ length ss
unfolding indexed_of
indexed-few [] = omega arith
indexed-few (x ∷ xs) = omega (arith, indexed-few xs, bit x.indexed)
  where
    bit : (c : Bool) → digit c ≤ 1
    bit true = omega arith
    bit false = omega arith

pub indexed-before : (k : ℕ) (ss : List SetState) → k < length ss → indexed_of (take k ss) + digit (get_or ss k no_set).indexed ≤ indexed_of ss
unfolding indexed_of
indexed-before k [] lt = absurd (omega arith)
indexed-before zero (x ∷ xs) lt = omega arith
indexed-before (suc k) (x ∷ xs) lt = omega (arith, indexed-before k xs (omega arith))

-- Of sets of which one has become x, indexed as it was, to write them writes the index of that one.
pub over_indexes-with : (k : ℕ) (x : SetState) (w : List ℕ) (m s j : ℕ) (ss : List SetState) → record_at (s + length ss) ≤ m → k < length ss → x.indexed ≡ (get_or ss k no_set).indexed
    → Indexes w m s j ss → over_indexes w m s j (sets_with k x ss) ≡ put w (m + 256 * (j + indexed_of (take k ss))) (index_words x)
unfolding over_indexes indexed_of
over_indexes-with k x w m s j [] b lt q h = absurd (omega arith)
over_indexes-with zero x w m s j (y ∷ ys) b lt q h =
    let is = index_words x in
    let n = length-index_words x in
    let p = m + 256 * j in
    let u = put w p is in
    let r = indexes-keep u w m (s + 1) (j + digit y.indexed) ys (length-put w p is)
    (get_or-put-before w p is 4 (omega arith))
    (λ t a c. get_or-put-before w p is (record_at t + 4) (omega arith))
    (λ k a. get_or-put-behind w p is k (omega (arith, ap digit q)))
    h.2 in
    ap (λ c. over_indexes (put (put w (record_at s + 4) (tag_of c j ∷ [])) p is) m (s + 1) (j + digit c) ys) q
    ∙ ap (λ v. over_indexes (put v p is) m (s + 1) (j + digit y.indexed) ys) (has_same h.0)
    ∙ indexes-same u m (s + 1) (j + digit y.indexed) ys r
    ∙ ap (λ i. put w (m + 256 * i) is) (sym (add-zero j))
over_indexes-with (suc k) x w m s j (y ∷ ys) b lt q h =
    let e : j + (digit y.indexed + indexed_of (take k ys)) ≡ j + digit y.indexed + indexed_of (take k ys) = omega arith in
    let i = j + digit y.indexed in
    ap (λ v. over_indexes (put v (m + 256 * j) (index_words y)) m (s + 1) i (sets_with k x ys)) (has_same h.0)
    ∙ ap (λ v. over_indexes v m (s + 1) i (sets_with k x ys)) (has_same h.1)
    ∙ over_indexes-with k x w m (s + 1) i ys (omega arith) (omega arith) q h.2
    ∙ ap (λ n. put w (m + 256 * n) (index_words x)) (sym e)
