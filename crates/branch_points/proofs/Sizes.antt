-- The size of a trie in the second form: by leaves, and never above the number of all nodes. Assumes nothing.
use mathlib.Core.Bool.{Bool, true, false, cond}
use mathlib.Core.List.{List, [], ◌∷◌, ◌++◌, map}
use mathlib.Core.Path.{◌≡◌, refl, ap, sym, ◌∙◌}
use Prim.Native.Nat.{ℕ, zero, suc, ◌+◌, ◌*◌, ◌≤◌}
use native.Mathlib.Nat.{suc-mul, mul-add, mul-le-mul_left}
use native.Mathlib.Omega.{arith}
use lib.ListN.{length, length-append, length-map}
use Rattle.nets.specs.Bits.{Bits}
use Rattle.nets.specs.Tries.{Trie, none, node, leaf, bare, size, levels, level, below, list_of}
use Rattle.nodes.proofs.Tries.{some}
use Rattle.branch_points.specs.KeptTries.{kept, kept_size}

-- the nodes of which f holds, counted level by level
unfoldable pub count : (Trie → Trie → Bool) → Trie → ℕ
count f none = 0
count f (node l r) = cond (f l r) 1 0 + count f l + count f r

module _ (f : Trie → Trie → Bool) where
  level-empty : (k : ℕ) → level f k none ≡ []
  level-empty zero = refl
  level-empty (suc k) = refl

  below-empty : (k : ℕ) → below f k none ≡ []
  below-empty zero = refl
  below-empty (suc k) = simp (below-empty k, level-empty)

  root-length : (x : Bool) → length {A = Bits} (cond x ([] ∷ []) []) ≡ cond x 1 0 + 0 + 0
  root-length true = refl
  root-length false = refl

  length-below : (k : ℕ) (l r : Trie) → length (below f (suc k) (node l r)) ≡ cond (f l r) 1 0 + length (below f k l) + length (below f k r)
  length-below zero l r = root-length (f l r)
  length-below (suc k) l r = simp (length-append, length-map) (omega (arith, simp length-append at (length-below k l r)))

  pub count-below : (t : Trie) (k : ℕ) → levels t ≤ k → length (below f k t) ≡ count f t
  unfolding count levels
  count-below none k h = rw (below-empty k)
  count-below (node l r) zero h = absurd (omega arith)
  count-below (node l r) (suc k) h = omega (arith, length-below k l r, count-below l k (omega arith), count-below r k (omega arith))

pub kept_size-count : (t : Trie) → kept_size t ≡ count kept t
unfolding kept_size count
kept_size-count none = refl
kept_size-count (node l r) = omega (arith, kept_size-count l, kept_size-count r)

-- twice the leaves less one
pub kept_size-leaves : (t : Trie) → (t ≡ none → ⊥) → kept_size t + 1 ≡ 2 * count bare t
unfolding kept_size count
kept_size-leaves none ne = absurd (ne refl)
kept_size-leaves (node none none) ne = refl
kept_size-leaves (node none (node x y)) ne = omega (arith, kept_size-leaves (node x y) (some x y))
kept_size-leaves (node (node x y) none) ne = omega (arith, kept_size-leaves (node x y) (some x y))
kept_size-leaves (node (node x y) (node u v)) ne = omega (arith, kept_size-leaves (node x y) (some x y), kept_size-leaves (node u v) (some u v))

pub leaves-list_of : (t : Trie) → length (list_of t) ≡ count bare t
unfolding list_of
leaves-list_of t = count-below bare t (levels t) (omega arith)

-- a leaf, and any trie that is not empty
pub kept_size-leaf : kept_size leaf ≡ 1
unfolding kept_size
kept_size-leaf = refl

pub kept_size-some : (t : Trie) → (t ≡ none → ⊥) → 1 ≤ kept_size t
unfolding kept_size
kept_size-some none ne = absurd (ne refl)
kept_size-some (node none none) ne = omega arith
kept_size-some (node none (node x y)) ne = omega (arith, kept_size-some (node x y) (some x y))
kept_size-some (node (node x y) none) ne = omega (arith, kept_size-some (node x y) (some x y))
kept_size-some (node (node x y) (node u v)) ne = omega arith

-- The size of a node by those of its children.
pub kept_size-none : (t : Trie) → kept_size t ≡ 0 → t ≡ none
kept_size-none none e = refl
kept_size-none (node l r) e = absurd (omega (arith, kept_size-some (node l r) (some l r)))

pub kept_size-halves : (l r : Trie) → kept_size l + kept_size r ≤ kept_size (node l r)
unfolding kept_size
kept_size-halves l r = go (kept l r)
  where
    go : (c : Bool) → kept_size l + kept_size r ≤ cond c 1 0 + kept_size l + kept_size r
    go true = omega arith
    go false = omega arith

-- the size of a node by those of its children
pub kept_size-second : (l r : Trie) → kept_size l ≡ 0 → (kept_size r ≡ 0 → ⊥) → kept_size (node l r) ≡ kept_size r
unfolding kept_size
kept_size-second none none e f = absurd (f refl)
kept_size-second none (node x y) e f = omega arith
kept_size-second (node x y) r e f = absurd (omega (arith, kept_size-some (node x y) (some x y)))

pub kept_size-first : (l r : Trie) → kept_size r ≡ 0 → (kept_size l ≡ 0 → ⊥) → kept_size (node l r) ≡ kept_size l
unfolding kept_size
kept_size-first none none e f = absurd (f refl)
kept_size-first (node x y) none e f = omega arith
kept_size-first l (node x y) e f = absurd (omega (arith, kept_size-some (node x y) (some x y)))

pub kept_size-both : (l r : Trie) → (kept_size l ≡ 0 → ⊥) → (kept_size r ≡ 0 → ⊥) → kept_size (node l r) ≡ 1 + kept_size l + kept_size r
unfolding kept_size
kept_size-both none r e f = absurd (e refl)
kept_size-both (node x y) none e f = absurd (f refl)
kept_size-both (node x y) (node z u) e f = omega arith

-- All nodes of a trie of at most k levels are at most k times the kept ones.
grown : (k s l r x y : ℕ) → x ≤ k * l → y ≤ k * r → l + r ≤ s → 1 ≤ s → k * (l + r) ≤ k * s → 1 + x + y ≤ suc k * s
grown k s l r x y p q le one m = rw (suc-mul k s) (omega (arith, mul-add k l r))

pub size-deep : (t : Trie) (k : ℕ) → levels t ≤ k → size t ≤ k * kept_size t
unfolding size levels
size-deep none k h = omega arith
size-deep (node l r) zero h = absurd (omega arith)
size-deep (node l r) (suc k) h =
    grown k (kept_size (node l r)) (kept_size l) (kept_size r) (size l) (size r) (size-deep l k (omega arith)) (size-deep r k (omega arith)) (kept_size-halves l r)
    (kept_size-some (node l r) (some l r))
    (mul-le-mul_left k (kept_size-halves l r))
