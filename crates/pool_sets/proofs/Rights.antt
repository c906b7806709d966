-- The rules of one set, by the tests of the code: its limit, the word of its mark, and, where it is public-only, whether its list is clear of the inner networks.
-- Assumes nothing.
use mathlib.Core.Path.{◌≡◌, refl, sym, ◌∙◌, ap, subst}
use mathlib.Core.Bool.{Bool, true, false, not, cond, ◌&&◌, ◌||◌}
use mathlib.Core.List.{List, []}
use Prim.Native.Nat.{ℕ, suc}
use native.Mathlib.Omega.{arith}
use lib.Dec.{eqb, leb}
use lib.ListN.{get_or}
use borrow.Author.Tests.{lt-leb, eq-eqb, ne_eqb, not-true, not-false}
use Rattle.nets.specs.Bits.{Bits}
use Rattle.nets.specs.Tries.{none, list_of, trie_of}
use Rattle.nets.proofs.TrieOf.{list_of-trie_of}
use Rattle.inner_nets.specs.Inner.{is_public}
use Rattle.inner_nets.proofs.Public.{is_public-nil}
use Rattle.nodes.specs.Parse.{Stands}
use Rattle.kept_nodes.specs.Parse.{KeptStands}
use Rattle.pool_state.specs.Kept.{held_l, bad_list, ok_list, read_l, form_of}
use Rattle.pool_state.specs.Decode.{record_at, read_set, is_right, form_in}
use Rattle.pool_state.specs.Rules.{share_in, limit_in, public_in, tag_in}
use Rattle.pool_state.proofs.Kept.{StandsL, read_l-stands, stands-trie, stands-kept, trie-some, form-some, never-read}
use Rattle.pool_sets.specs.Sets.{Placed, is_unindexed, marks}
use Rattle.nets.specs.Networks.{width}

-- A set that is read: where it has no root its list is empty, and else the trie of its list stands at node i. So the tests settle its mark.
module _ {w : List ℕ} {b n s i : ℕ} {l : List Bits} (p : Placed w b n s i l) where
  read_none : get_or w (record_at s) 0 ≡ 0 → l ≡ []
  unfolding read_set
  read_none z = let x : ok_list [] ≡ ok_list l = rw (eq-eqb (get_or w (record_at s) 0) 0 z) at p.read in cc

  module _ (nz : get_or w (record_at s) 0 ≡ 0 → ⊥) where
    read_some : StandsL (form_in w) (get_or w 1 0) w b n i l × (l ≡ [] → ⊥)
    unfolding read_set
    read_some = go (eqb (get_or w (record_at s) 0) i) (rw (ne_eqb (get_or w (record_at s) 0) 0 nz) at p.read)
      where
        go : (d : Bool) → cond d (read_l (form_in w) (get_or w 1 0) w b n i) bad_list ≡ ok_list l → StandsL (form_in w) (get_or w 1 0) w b n i l × (l ≡ [] → ⊥)
        go true h = read_l-stands (form_in w) p.room p.one h
        go false h = absurd (never-read l h)

    pub some-trie : trie_of l ≡ none → ⊥
    some-trie = trie-some (width (get_or w 1 0)) l read_some.0.list read_some.1

    pub of-list : list_of (trie_of l) ≡ l
    of-list = list_of-trie_of (width (get_or w 1 0)) l read_some.0.list

    -- in the first form, and in the second
    pub in-first : get_or w 5 0 ≡ 0 → Stands w b n (suc (width (get_or w 1 0))) i (trie_of l)
    in-first z = stands-trie (subst (λ F. StandsL F (get_or w 1 0) w b n i l) (ap form_of z) read_some.0)

    pub in-second : (get_or w 5 0 ≡ 0 → ⊥) → KeptStands (get_or w 1 0) w b n [] i (trie_of l)
    in-second ne = stands-kept (subst (λ F. StandsL F (get_or w 1 0) w b n i l) (form-some (get_or w 5 0) ne) read_some.0)

  pub mark-off : public_in w s ≡ 0 → true ≡ marks w s l
  unfolding marks
  mark-off z = rw z

  pub mark-bad : (public_in w s ≡ 0 → ⊥) → (public_in w s ≡ 1 → ⊥) → false ≡ marks w s l
  unfolding marks
  mark-bad z o = rw (lt-leb (public_in w s) 1 (omega arith))

  module _ (one : public_in w s ≡ 1) where
    pub mark-none : get_or w (record_at s) 0 ≡ 0 → true ≡ marks w s l
    unfolding marks
    mark-none z = rw (one, read_none z) (sym (is_public-nil (get_or w 1 0)))

    pub mark_on : {r : Bool} → r ≡ is_public (get_or w 1 0) l → r ≡ marks w s l
    unfolding marks
    mark_on q = rw one q

-- No index in the second form.
module _ (w : List ℕ) (s : ℕ) where
  pub form-first : get_or w 5 0 ≡ 0 → true ≡ is_unindexed w s
  unfolding is_unindexed
  form-first z = rw z

  pub form-tagged : (get_or w 5 0 ≡ 0 → ⊥) → eqb (tag_in w s) 0 ≡ is_unindexed w s
  unfolding is_unindexed
  form-tagged ne = rw (form-some (get_or w 5 0) ne) (go (eqb (tag_in w s) 0))
    where
      go : (b : Bool) → b ≡ not (not b)
      go true = refl
      go false = refl

-- The rules: no index in the second form, the limit, and then the mark.
apart : (u a b c d : Bool) → (a && (u && (b && (c && d)))) ≡ (u && ((b && c) && (a && d)))
apart false false b c d = refl
apart false true b c d = refl
apart true false false c d = refl
apart true false true false d = refl
apart true false true true d = refl
apart true true false c d = refl
apart true true true false d = refl
apart true true true true d = refl

module _ (w : List ℕ) (s : ℕ) (l : List Bits) {o : Bool} (form : o ≡ is_unindexed w s) where
  parts : is_right w (get_or w 1 0) s l
      ≡ (o && ((leb (share_in w s) (limit_in w s) && leb (held_l (form_in w) l) (limit_in w s)) && marks w s l))
  unfolding is_unindexed marks
  parts =
      rw form
      (apart (is_unindexed w s) (leb (public_in w s) 1) (leb (share_in w s) (limit_in w s)) (leb (held_l (form_in w) l) (limit_in w s)) (not (eqb (public_in w s) 1) || is_public (get_or w 1 0) l))

  pub right-formless : not o ≡ true → false ≡ is_right w (get_or w 1 0) s l
  right-formless q = sym (parts ∙ rw (not-true o q))

  module _ (formed : not o ≡ false) {r : Bool} {m : ℕ} (size : m ≡ held_l (form_in w) l) (limit : r ≡ (leb (share_in w s) (limit_in w s) && leb m (limit_in w s))) where
    is-limit : is_right w (get_or w 1 0) s l ≡ (r && marks w s l)
    is-limit = parts ∙ rw (not-false o formed, limit, size)

    pub right-over : not r ≡ true → false ≡ is_right w (get_or w 1 0) s l
    right-over q = sym (is-limit ∙ rw (not-true r q))

    pub right-marked : not r ≡ false → {q : Bool} → q ≡ marks w s l → q ≡ is_right w (get_or w 1 0) s l
    right-marked p {q} e = e ∙ sym (is-limit ∙ rw (not-false r p))
