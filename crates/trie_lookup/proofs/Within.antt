-- A member that a walk shows is at most as long as the query, and never more nodes are read than the query has bits, plus one. Assumes nothing.
use mathlib.Core.Bool.{Bool, true, false, cond, ◌&&◌}
use mathlib.Core.List.{List, [], ◌∷◌}
use mathlib.Core.Path.{◌≡◌, refl}
use Prim.Native.Nat.{ℕ, ◌+◌, ◌-◌, ◌/◌, ◌%◌, ◌≤◌}
use native.Mathlib.Omega.{arith}
use lib.Dec.{eqb, leb}
use lib.ListN.{length}
use borrow.Author.Tests.{leb-true}
use Rattle.nets.specs.Bits.{Bits}
use Rattle.nets.specs.declared.Refusal.TheVariants.{Damaged}
use Rattle.nets.proofs.Strings.{cond_both}
use Rattle.nodes.specs.Words.{word_at}
use Rattle.trie_lookup.specs.Walks.{are_nodes, toward, shows, walk, walk_from, is_node, node_shows, stands_on}
use Rattle.trie_lookup.specs.declared.Shown.{Shown}
use Rattle.trie_lookup.specs.declared.Shown.TheVariants.{Member, Nothing, Refused}

-- the member that is shown has at most m bits, and at most m + 1 nodes were read
abbrev pub AtMost : ℕ → Shown → Type 0
AtMost m (Member d s) = (d ≤ m) × (s ≤ m + 1)
AtMost m (Nothing s) = s ≤ m + 1
AtMost m (Refused r) = Unit

module _ (w : List ℕ) (b n m : ℕ) where
  shows-within : (d i x : ℕ) (s : Shown) → d ≤ m → AtMost m s → AtMost m (shows n d i x s)
  shows-within d i x s le h =
      cond_both (AtMost m) (eqb x 0) (Member d (d + 1)) (cond (are_nodes n i x) s (Refused Damaged)) (le, omega arith) (cond_both (AtMost m) (are_nodes n i x) s (Refused Damaged) h tt)

  walk-within : (q : Bits) (d i : ℕ) → d + length q ≤ m → AtMost m (walk w b n d i q)
  unfolding walk
  walk-within [] d i le = shows-within d i (word_at w b i) (Nothing (d + 1)) (omega arith) (omega arith)
  walk-within (c ∷ q) d i le =
      let x = toward c (word_at w b i) in
      shows-within d i (word_at w b i) (cond (eqb x 0) (Nothing (d + 1)) (walk w b n (d + 1) (i + x) q)) (omega arith)
      (cond_both (AtMost m) (eqb x 0) (Nothing (d + 1)) (walk w b n (d + 1) (i + x) q) (omega arith) (walk-within q (d + 1) (i + x) (omega arith)))

  pub walk_from-within : (q : Bits) (r : ℕ) → length q ≤ m → AtMost m (walk_from w b n q r)
  unfolding walk_from
  walk_from-within q r le =
      cond_both (AtMost m) (eqb r 0) (Nothing 0) (cond (leb r n) (walk w b n 0 r q) (Refused Damaged)) (omega arith)
      (cond_both (AtMost m) (leb r n) (walk w b n 0 r q) (Refused Damaged) (walk-within q 0 r (omega arith)) tt)

  node_shows-within : (d i : ℕ) (q : Bits) → d ≤ 8 → 8 + length q ≤ m → AtMost m (node_shows w b n d i q)
  unfolding node_shows
  node_shows-within d i q le fit =
      cond_both (AtMost m) (eqb d 8) (walk w b n 8 i q) (cond (eqb (word_at w b i) 0) (Member d (d + 1)) (Refused Damaged)) (walk-within q 8 i fit)
      (cond_both (AtMost m) (eqb (word_at w b i) 0) (Member d (d + 1)) (Refused Damaged) (omega arith, omega arith) tt)

  pub stands_on-within : (r x : ℕ) (q : Bits) → 8 + length q ≤ m → AtMost m (stands_on w b n r x q)
  unfolding stands_on
  stands_on-within r x q fit = go (leb 16 x) (leb x 24) (leb (x % 32) 8) refl refl
    where
      inner : (d : Bool) → leb (x % 32) 8 ≡ d → AtMost m (cond (d && is_node n (r + x / 32)) (node_shows w b n (x % 32) (r + x / 32) q) (Refused Damaged))
      inner false z = tt
      inner true z =
          cond_both (AtMost m) (is_node n (r + x / 32)) (node_shows w b n (x % 32) (r + x / 32) q) (Refused Damaged) (node_shows-within (x % 32) (r + x / 32) q (leb-true (x % 32) 8 z) fit) tt

      go : (a c d : Bool) → leb x 24 ≡ c → leb (x % 32) 8 ≡ d
          → AtMost m (cond (a && c) (Nothing (x - 16)) (cond (d && is_node n (r + x / 32)) (node_shows w b n (x % 32) (r + x / 32) q) (Refused Damaged)))
      go true true d e f = omega (arith, leb-true x 24 e)
      go true false d e f = inner d f
      go false c d e f = inner d f
