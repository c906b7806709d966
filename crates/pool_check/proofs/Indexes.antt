-- The pass over the tags and the indexes by the tests of the code: what is left of them decides. Assumes nothing.
use mathlib.Core.Path.{◌≡◌, refl, sym, ap, ◌∙◌, subst}
use mathlib.Core.Bool.{Bool, true, false, not, cond, ◌&&◌, false≢true}
use mathlib.Core.List.{List, [], ◌∷◌}
use Prim.Native.Nat.{ℕ, suc, ◌+◌, ◌*◌, ◌≤◌, ◌<◌}
use native.Mathlib.Nat.{zero-add, add-zero}
use native.Mathlib.Numerals.{add-one}
use native.Mathlib.Omega.{arith}
use lib.Dec.{eqb}
use lib.ListN.{length, get_or, drop, drop_of_length-le}
use lib.Seq.{drop-cons}
use borrow.Author.Tests.{eq-eqb, ne_eqb, not-true, not-false}
use Rattle.std.specs.Prelude.{Option, Some, None}
use Rattle.nets.specs.Bits.{Bits, digit}
use Rattle.nets.specs.Networks.{width}
use Rattle.nets.specs.Tries.{Trie, trie_of}
use Rattle.nodes.proofs.Has.{has-head}
use Rattle.trie_index.specs.Index.{index_t, is_at, Rooted}
use Rattle.pool_state.specs.Kept.{index_l, first}
use Rattle.pool_state.specs.States.{SetState, State, indexed_of}
use Rattle.pool_state.specs.Decode.{record_at, base, least_words, root_at, tag_of, index_words, indexes_at, Decoded, damaged, sound, is_header, are_indexes, where_indexed, read_pool, decode}
use Rattle.pool_state.specs.Rules.{no_set, first_node, tag_in, found_of}
use Rattle.pool_state.specs.declared.Survey.{Survey}
use Rattle.pool_state.proofs.Kept.{StandsL, stands-trie, trie-some}
use Rattle.pool_state.proofs.Header.{IsHeader, is_header-header}
use Rattle.pool_state.proofs.Holds.{HoldsSet, cons-some, holds_at}
use Rattle.pool_state.proofs.Encoded.{sound-header, reads-sound}
use Rattle.pool_state.proofs.Indexed.{are_indexes-count}
use Rattle.pool_state.proofs.Seen.{found-sound}
use Rattle.pool_state.proofs.Changed.{first_node-from}
use Rattle.pool_state.proofs.Claims.{indexable-first, is_set-indexable}

pub read-header : {w : List ℕ} → ((S : State) × (read_pool w ≡ sound S)) → IsHeader w
read-header {w} (S, e) = is_header-header w (sound-header (reads-sound w S e)).known

indexed-cons : (x : SetState) (xs : List SetState) → indexed_of (x ∷ xs) ≡ digit x.indexed + indexed_of xs
unfolding indexed_of
indexed-cons x xs = refl

-- The trie of a list, by the root's number.
list-rooted : {v : ℕ} {w : List ℕ} {b n i : ℕ} (l : List Bits) → 1 ≤ i → StandsL first v w b n i l → Rooted w b n (root_at i l) (trie_of l)
unfolding trie_of
list-rooted [] one h = record { empty = λ e. refl; some = λ ne. absurd (ne refl) }
list-rooted {v} {w} {b} {n} {i} (p ∷ l) one h =
    record { empty = λ e. absurd (omega arith); some = λ ne. (suc (width v), stands-trie h, trie-some (width v) (p ∷ l) h.list (cons-some p l)) }

module _ (w : List ℕ) (s : ℕ) (S : State) (e : read_pool w ≡ sound S) (lt : s < get_or w 2 0) where
  abbrev its : SetState
  its = get_or S.sets s no_set

  known : s < length S.sets
  known = omega (arith, (sound-header (reads-sound w S e)).sets)

  own : HoldsSet S.form w (base (length S.sets)) S.nodes S.family s (first_node s 1 S.sets) its
  own = rw zero-add at (holds_at 0 s S.sets (omega arith) known (reads-sound w S e).holds)

  rooted : its.indexed ≡ true → Rooted w (base (get_or w 2 0)) (get_or w 3 0) (get_or w (record_at s) 0) (trie_of its.list)
  rooted x =
      let h = sound-header (reads-sound w S e) in
      let r : get_or w (record_at s) 0 ≡ root_at (first_node s 1 S.sets) its.list = has-head own.here in
      let F : S.form ≡ first = sym own.form ∙ indexable-first its x (is_set-indexable S.family its own.rules) in
      rw (h.sets, h.nodes, r) (list-rooted its.list (first_node-from s 1 S.sets known) (rw F at own.list))

  -- the tag and the index of set s, and then those of the others
  abbrev rest : ℕ → Bool
  rest j = are_indexes w (indexes_at S) s j (drop s S.sets)

  next : (j : ℕ) → rest j
      ≡ ((eqb (tag_in w s) (tag_of its.indexed j) && is_at w (indexes_at S + 256 * j) (index_words its))
      && are_indexes w (indexes_at S) (s + 1) (j + digit its.indexed) (drop (s + 1) S.sets))
  unfolding are_indexes
  next j = ap (are_indexes w (indexes_at S) s j) (drop-cons S.sets s no_set known ∙ ap (λ n. its ∷ drop n S.sets) (sym (add-one s)))

  plain : (j : ℕ) → tag_in w s ≡ 0 → rest j ≡ are_indexes w (indexes_at S) (s + 1) j (drop (s + 1) S.sets)
  unfolding is_at
  plain j z =
      let c : its.indexed ≡ false = sym own.tag ∙ ap (λ x. not (eqb x 0)) z in
      next j ∙ rw (c, z, add-zero j)

  module _ (some : tag_in w s ≡ 0 → ⊥) where
    marked : its.indexed ≡ true
    marked = sym own.tag ∙ ap not (ne_eqb (tag_in w s) 0 some)

    off : (j : ℕ) → (tag_in w s ≡ j + 1 → ⊥) → rest j ≡ false
    off j ne = next j ∙ rw (marked, ne_eqb (tag_in w s) (suc j) (λ q. ne (q ∙ sym (add-one j))))

    few : (j : ℕ) → get_or w 4 0 < j + 1 → rest j ≡ false
    few j lt = go (rest j) refl
      where
        go : (b : Bool) → rest j ≡ b → b ≡ false
        go false q = refl
        go true q =
            let c = are_indexes-count w (indexes_at S) s j (drop s S.sets) q in
            let d : indexed_of (drop s S.sets) ≡ digit its.indexed + indexed_of (drop (suc s) S.sets) = ap indexed_of (drop-cons S.sets s no_set known) ∙ indexed-cons its (drop (suc s) S.sets) in
            absurd (omega (arith, c, d, ap digit marked))

    on : (j : ℕ) → tag_in w s ≡ j + 1 → rest j ≡ (is_at w (indexes_at S + 256 * j) (index_t (trie_of its.list)) && are_indexes w (indexes_at S) (s + 1) (j + 1) (drop (s + 1) S.sets))
    unfolding index_l
    on j q = next j ∙ rw (marked, q, add-one j, eq-eqb (suc j) (suc j) refl)

-- The answer for set s: how many indexed sets there are then, or none, where what it has is wrong.
abbrev Counts : List ℕ → ℕ → ℕ → ℕ → Type 0
Counts w s j k = (k ≤ j + 1)
    × ((S : State) → read_pool w ≡ sound S → are_indexes w (indexes_at S) s j (drop s S.sets) ≡ are_indexes w (indexes_at S) (s + 1) k (drop (s + 1) S.sets))

abbrev Wrong : List ℕ → ℕ → ℕ → Type 0
Wrong w s j = (S : State) → read_pool w ≡ sound S → are_indexes w (indexes_at S) s j (drop s S.sets) ≡ false

abbrev pub After : List ℕ → ℕ → ℕ → Option ℕ → Type 0
After w s j r = ((k : ℕ) → r ≡ Some k → Counts w s j k) × (r ≡ None → Wrong w s j)

abbrev in_option : Option ℕ → Bool × ℕ
in_option (Some k) = (true, k)
in_option None = (false, 0)

after-some : (w : List ℕ) (s j r : ℕ) → Counts w s j r → After w s j (Some r)
after-some w s j r h = (λ k q. subst (Counts w s j) (ap (λ x. (in_option x).1) q) h, λ q. absurd (false≢true (sym (ap (λ x. (in_option x).0) q))))

after-none : (w : List ℕ) (s j : ℕ) → Wrong w s j → After w s j None
after-none w s j h = (λ k q. absurd (false≢true (ap (λ x. (in_option x).0) q)), λ q. h)

module _ (w : List ℕ) (s j : ℕ) (lt : s < get_or w 2 0) (le : j ≤ s) (all : (S : State) × (read_pool w ≡ sound S)) where
  pub after-plain : tag_in w s ≡ 0 → After w s j (Some j)
  after-plain z = after-some w s j _ (omega arith, λ S e. plain w s S e lt j z)

  module _ (some : tag_in w s ≡ 0 → ⊥) where
    pub after-off : (tag_in w s ≡ j + 1 → ⊥) → After w s j None
    after-off ne = after-none w s j (λ S e. off w s S e lt some j ne)

    module _ (z : tag_in w s ≡ j + 1) where
      pub after-few : get_or w 4 0 < tag_in w s → After w s j None
      after-few l = after-none w s j (λ S e. few w s S e lt some j (omega arith))

      module _ {r : Bool} {b p root : ℕ} (eb : b ≡ base (get_or w 2 0)) (er : root ≡ get_or w (record_at s) 0) (ep : p ≡ least_words (get_or w 2 0) (get_or w 3 0) j)
          (told : (t : Trie) → Rooted w b (get_or w 3 0) root t → r ≡ is_at w p (index_t t)) where
        says : (S : State) (e : read_pool w ≡ sound S) → r ≡ is_at w (indexes_at S + 256 * j) (index_t (trie_of (its w s S e lt).list))
        says S e =
            let h = sound-header (reads-sound w S e) in
            let q : p ≡ indexes_at S + 256 * j = ep ∙ rw (h.sets, h.nodes) (let y : least_words (length S.sets) S.nodes j ≡ indexes_at S + 256 * j = omega arith in y) in
            told (trie_of (its w s S e lt).list) (rw (eb, er) (rooted w s S e lt (marked w s S e lt some))) ∙ ap (λ x. is_at w x (index_t (trie_of (its w s S e lt).list))) q

        pub after-wrong : not r ≡ true → After w s j None
        after-wrong n = after-none w s j (λ S e. on w s S e lt some j z ∙ rw (← says S e, not-true r n))

        pub after-right : not r ≡ false → After w s j (Some (j + 1))
        after-right n = after-some w s j _ (omega arith, λ S e. on w s S e lt some j z ∙ rw (← says S e, not-false r n))

      pub after-rooted : (t : Trie) × Rooted w (base (get_or w 2 0)) (get_or w 3 0) (get_or w (record_at s) 0) t
      after-rooted = let (S, e) = all in (trie_of (its w s S e lt).list, rooted w s S e lt (marked w s S e lt some))

-- The loop: the tags and indexes from set s on decide.
pub record Left (w : List ℕ) (s j : ℕ) : Type 0 where
  pub within : s ≤ get_or w 2 0
  pub few : j ≤ s
  pub part : (S : State) → read_pool w ≡ sound S → are_indexes w (indexes_at S) s j (drop s S.sets) ≡ are_indexes w (indexes_at S) 0 0 S.sets

pub left-start : (w : List ℕ) → Left w 0 0
left-start w = record { within = omega arith; few = omega arith; part = λ S e. refl }

module _ {w : List ℕ} {s j : ℕ} (h : Left w s j) where
  module _ {r : Option ℕ} (a : After w s j r) where
    pub left-wrong : r ≡ None → (S : State) → read_pool w ≡ sound S → false ≡ are_indexes w (indexes_at S) 0 0 S.sets
    left-wrong z S e = sym (a.1 z S e) ∙ h.part S e

    pub left-on : (k : ℕ) → r ≡ Some k → s < get_or w 2 0 → Left w (s + 1) k
    left-on k q lt = record {
      within = omega arith;
      few = omega (arith, (a.0 k q).0, h.few);
      part = λ S e. sym ((a.0 k q).1 S e) ∙ h.part S e;
    }

  pub left_end : get_or w 2 0 ≤ s → (S : State) → read_pool w ≡ sound S → eqb (get_or w 4 0) j ≡ are_indexes w (indexes_at S) 0 0 S.sets
  unfolding are_indexes
  left_end le S e =
      let n : length S.sets ≤ s = omega (arith, (sound-header (reads-sound w S e)).sets) in
      rw (drop_of_length-le S.sets n) at (h.part S e)

-- Without a header there is nothing to find.
pub headless : (w : List ℕ) (k : ℕ) → is_header w ≡ false → None ≡ found_of (decode w) k
unfolding decode read_pool found_of
headless w k h = rw h

-- What a pass finds, by that over the sets and that over the tags and indexes.
abbrev is_some : Option Survey → Bool
is_some (Some v) = true
is_some None = false

pub whole-off : (w : List ℕ) (k : ℕ) → None ≡ found_of (read_pool w) k → None ≡ found_of (decode w) k
unfolding decode found_of
whole-off w k e = go (read_pool w) e
  where
    go : (d : Decoded) → None ≡ found_of d k → None ≡ found_of (where_indexed w d) k
    go damaged q = refl
    go (sound S) q = absurd (false≢true (ap is_some q))

module _ (w : List ℕ) (k : ℕ) (v : Survey) (e : Some v ≡ found_of (read_pool w) k) where
  pub whole-some : (S : State) × (read_pool w ≡ sound S)
  whole-some = let x = found-sound (read_pool w) k v e in (x.0, x.1)

  module _ {r : Bool} (right : (S : State) → read_pool w ≡ sound S → r ≡ are_indexes w (indexes_at S) 0 0 S.sets) where
    pub whole-wrong : not r ≡ true → None ≡ found_of (decode w) k
    unfolding decode found_of
    whole-wrong n = let (S, q) = whole-some in rw (q, ← right S q, not-true r n)

    pub whole-right : not r ≡ false → Some v ≡ found_of (decode w) k
    unfolding decode
    whole-right n = let (S, q) = whole-some in e ∙ rw (q, ← right S q, not-false r n)
