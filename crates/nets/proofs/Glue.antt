-- Halves of a trie, and the trie glued from two: what is found there, and its levels. Assumes nothing.
use mathlib.Core.Bool.{Bool, true, false, cond, ◌&&◌, ◌||◌, and-false, false≢true}
use mathlib.Core.List.{[], ◌∷◌}
use mathlib.Core.Path.{◌≡◌, refl, ap, sym, ◌∙◌}
use Prim.Native.Nat.{ℕ, suc, ◌≤◌, max}
use native.Mathlib.Omega.{arith}
use Rattle.nets.specs.Bits.{Bits}
use Rattle.nets.specs.Tries.{Trie, none, node, leaf, bare, is_leaf, side, glue, member_t, covers_t, levels}
use Rattle.nets.specs.TrieOps.{half}
use Rattle.nets.proofs.Strings.{and_left, and_right}
use Rattle.nets.proofs.Levels.{side_same, levels-side, node_at-none}
use Rattle.nets.proofs.Listing.{covers_t-none, covers_t-leaf, leaf-is}

-- where the halves are left apart, and not both of them are empty, it is the node over them
pub glue-inner : (l r : Trie) → bare l r ≡ false → glue false l r ≡ node l r
glue-inner none none e = absurd (false≢true (sym e))
glue-inner none (node c d) e = refl
glue-inner (node a b) none e = refl
glue-inner (node a b) (node c d) e = refl

pub covers_t-half : (t : Trie) (b : Bool) (a : Bits) → covers_t t (b ∷ a) ≡ covers_t (half b t) a
covers_t-half none b a = sym (covers_t-none a)
covers_t-half (node l r) b a = go (bare l r)
  where
    go : (x : Bool) → (x || covers_t (side b l r) a) ≡ covers_t (cond x leaf (side b l r)) a
    go true = sym (covers_t-leaf a)
    go false = refl

-- where two halves are joined each is full
joined : (j b : Bool) (l r : Trie) (a : Bits) → (j && (is_leaf l && is_leaf r)) ≡ true → covers_t (side b l r) a ≡ true
joined j b l r a e =
    let h = and_right j (is_leaf l && is_leaf r) e in
    rw (leaf-is l (and_left (is_leaf l) (is_leaf r) h), leaf-is r (and_right (is_leaf l) (is_leaf r) h), side_same b leaf) (covers_t-leaf a)

pub covers_t-glue : (j b : Bool) (l r : Trie) (a : Bits) → covers_t (glue j l r) (b ∷ a) ≡ covers_t (side b l r) a
covers_t-glue j b none none a = rw (side_same b none) (sym (covers_t-none a))
covers_t-glue j b none (node c d) a = refl
covers_t-glue j b (node c d) none a = refl
covers_t-glue j b (node c d) (node e f) a = go (j && (bare c d && bare e f)) refl
  where
    go : (x : Bool) → (j && (bare c d && bare e f)) ≡ x → covers_t (cond x leaf (node (node c d) (node e f))) (b ∷ a) ≡ covers_t (side b (node c d) (node e f)) a
    go true h = sym (joined j b (node c d) (node e f) a h)
    go false h = refl

pub covers_t-glue-end : (j : Bool) (l r : Trie) → covers_t (glue j l r) [] ≡ (j && (is_leaf l && is_leaf r))
covers_t-glue-end j none none = sym (and-false j)
covers_t-glue-end j none (node c d) = sym (and-false j)
covers_t-glue-end j (node c d) none = sym (ap (λ z. j && z) (and-false (bare c d)) ∙ and-false j)
covers_t-glue-end j (node c d) (node e f) = go (j && (bare c d && bare e f))
  where
    go : (x : Bool) → covers_t (cond x leaf (node (node c d) (node e f))) [] ≡ x
    go true = refl
    go false = refl

-- Halves that are not joined keep their members.
pub member_t-glue : (b : Bool) (l r : Trie) (q : Bits) → member_t (b ∷ q) (glue false l r) ≡ member_t q (side b l r)
member_t-glue b none none q = rw (side_same b none) (sym (node_at-none bare q))
member_t-glue b none (node c d) q = refl
member_t-glue b (node c d) none q = refl
member_t-glue b (node c d) (node e f) q = refl

pub member_t-glue-end : (l r : Trie) → member_t [] (glue false l r) ≡ false
member_t-glue-end none none = refl
member_t-glue-end none (node c d) = refl
member_t-glue-end (node c d) none = refl
member_t-glue-end (node c d) (node e f) = refl

pub levels-glue : (j : Bool) (l r : Trie) → levels (glue j l r) ≤ suc (max (levels l) (levels r))
unfolding levels
levels-glue j none none = omega arith
levels-glue j none (node c d) = omega arith
levels-glue j (node c d) none = omega arith
levels-glue j (node c d) (node e f) = go (j && (bare c d && bare e f))
  where
    go : (x : Bool) → levels (cond x leaf (node (node c d) (node e f))) ≤ suc (max (levels (node c d)) (levels (node e f)))
    go true = omega arith
    go false = omega arith

pub levels-half : (b : Bool) (t : Trie) (k : ℕ) → levels t ≤ suc k → 1 ≤ k → levels (half b t) ≤ k
unfolding levels
levels-half b none k h g = omega arith
levels-half b (node l r) k h g = go (bare l r)
  where
    go : (x : Bool) → levels (cond x leaf (side b l r)) ≤ k
    go true = omega arith
    go false = omega (arith, levels-side b l r)
