-- Where a path begins, by the tests of the code: the root, or the word of an index. Assumes nothing.
use mathlib.Core.Bool.{true}
use mathlib.Core.List.{List}
use mathlib.Core.Path.{◌≡◌}
use Prim.Native.Nat.{ℕ, ◌+◌, ◌-◌, ◌≤◌, ◌<◌}
use lib.ListN.{length, get_or, take, drop}
use borrow.Author.Tests.{le-leb, lt-leb, eq-eqb, ne_eqb, lt-ltb, le-ltb}
use Rattle.nets.specs.Bits.{Bits, val}
use Rattle.nets.specs.declared.Refusal.TheVariants.{Damaged}
use Rattle.nodes.specs.Parse.{Room}
use Rattle.pool_state.specs.Kept.{first}
use Rattle.pool_state.specs.Decode.{record_at, base, least_words, is_header}
use Rattle.pool_state.specs.Rules.{tag_in}
use Rattle.pool_state.proofs.Header.{is_header-header, header-room}
use Rattle.trie_lookup.specs.Walks.{walk_from, stands_on}
use Rattle.trie_lookup.specs.declared.Shown.TheVariants.{Refused}
use Rattle.lookup.specs.Rules.{from_root, from_index, path_of}

-- The nodes and the root of a set, by where they are found.
module _ (w : List ℕ) (k : ℕ) {b n r : ℕ} (g : (b ≡ base (get_or w 2 0)) × (n ≡ get_or w 3 0) × (r ≡ get_or w (record_at k) 0)) where
  pub ground-room : is_header w ≡ true → Room w b n
  ground-room h = rw (g.0, g.1) (header-room (is_header-header w h))

  pub root-walk : (q : Bits) → walk_from w b n q r ≡ from_root w k q
  root-walk q = rw (g.0, g.1, g.2)

  pub index_word : (t : ℕ) (q : Bits) {m v : ℕ} {p : Bits} → m ≡ least_words (get_or w 2 0) n t → v ≡ val (take 8 q) → p ≡ drop 8 q
      → stands_on w b n r (get_or w (m + v) 0) p ≡ from_index w k (least_words (get_or w 2 0) (get_or w 3 0) t) q
  index_word t q em ev ep = rw (em, ev, ep, g.0, g.1, g.2)

-- The tests of a path.
module _ (w : List ℕ) (k : ℕ) (q : Bits) where
  pub path-plain : tag_in w k ≡ 0 → from_root w k q ≡ path_of first w k q
  unfolding path_of
  path-plain e = rw (eq-eqb (tag_in w k) 0 e)

  module _ (some : tag_in w k ≡ 0 → ⊥) where
    pub path-short : length q < 8 → from_root w k q ≡ path_of first w k q
    unfolding path_of
    path-short lt = rw (ne_eqb (tag_in w k) 0 some, lt-ltb (length q) 8 lt)

    module _ (long : 8 ≤ length q) where
      pub path-damaged : get_or w 4 0 < tag_in w k → Refused Damaged ≡ path_of first w k q
      unfolding path_of
      path-damaged lt = rw (ne_eqb (tag_in w k) 0 some, le-ltb (length q) 8 long, lt-leb (tag_in w k) (get_or w 4 0) lt)

      pub path-index : tag_in w k ≤ get_or w 4 0 → {m v x : ℕ} {p : Bits} → m ≡ least_words (get_or w 2 0) (get_or w 3 0) (tag_in w k - 1) → v ≡ val (take 8 q) → x ≡ get_or w (m + v) 0 → p ≡ drop 8 q
          → stands_on w (base (get_or w 2 0)) (get_or w 3 0) (get_or w (record_at k) 0) x p ≡ path_of first w k q
      unfolding path_of
      path-index le em ev ex ep = rw (ne_eqb (tag_in w k) 0 some, le-ltb (length q) 8 long, le-leb (tag_in w k) (get_or w 4 0) le, ex, em, ev, ep)
