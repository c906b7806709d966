-- What is left of a trie where a path is taken out of it: of none, of a leaf, of an inner node by the side of the bit, and how many nodes that are. Assumes nothing.
use mathlib.Core.Path.{◌≡◌, refl}
use mathlib.Core.Bool.{Bool, true, false, and-false}
use mathlib.Core.List.{[], ◌∷◌}
use Prim.Native.Nat.{ℕ, ◌+◌, ◌*◌, ◌≤◌}
use native.Mathlib.Omega.{arith}
use borrow.Author.Tests.{ne_eqb}
use lib.Dec.{eqb}
use lib.ListN.{length}
use Rattle.nets.specs.Bits.{Bits}
use Rattle.nets.specs.Tries.{Trie, none, node, leaf, size, bare, is_none, is_leaf, side, fork}
use Rattle.nets.specs.TrieOps.{rejoin, remove_t}
use Rattle.nets.proofs.Strings.{cond_both}
use Rattle.nets.proofs.Listing.{leaf-is}
use Rattle.nets.proofs.Glue.{glue-inner}
use Rattle.nodes.proofs.Tries.{size-fork, size-side}
use Rattle.trie_remove.specs.Removal.{rooted}

-- The trie with two halves: none where both are, else a node.
pub rejoin-fork : (b : Bool) (x y : Trie) → bare x y ≡ false → rejoin b x y ≡ fork b x y
rejoin-fork false x y e = glue-inner x y e
rejoin-fork true none (node c d) e = refl
rejoin-fork true (node a b) y e = glue-inner y (node a b) (and-false (is_none y))
rejoin-fork true none none e = let z : ◌≡◌ {A = ℕ} 0 1 = cc in absurd (omega arith)

pub rejoin-none : (b : Bool) → rejoin b none none ≡ none
rejoin-none false = refl
rejoin-none true = refl

pub rooted-some : (n : ℕ) → (n ≡ 0 → ⊥) → rooted n ≡ n + 1
rooted-some n f = rw (ne_eqb n 0 f)

pub size-rejoin : (b : Bool) (x y : Trie) → size (rejoin b x y) ≡ rooted (size x + size y)
unfolding size
size-rejoin b none none = rw (rejoin-none b)
size-rejoin b none (node c d) = rw (rejoin-fork b none (node c d) refl, size-fork b none (node c d), rooted-some (0 + (1 + size c + size d)) (λ e. omega arith)) (omega arith)
size-rejoin b (node l r) y = rw (rejoin-fork b (node l r) y refl, size-fork b (node l r) y, rooted-some (1 + size l + size r + size y) (λ e. omega arith)) (omega arith)

pub remove_t-end : (t : Trie) → remove_t [] t ≡ none
unfolding remove_t
remove_t-end t = refl

pub remove_t-none : (p : Bits) → remove_t p none ≡ none
unfolding remove_t
remove_t-none [] = refl
remove_t-none (b ∷ p) = rw (remove_t-none p) (rejoin-none b)

-- a full block is halved, and the other half stays
pub remove_t-leaf : (b : Bool) (p : Bits) → remove_t (b ∷ p) leaf ≡ fork b (remove_t p leaf) leaf
unfolding remove_t
remove_t-leaf b p = rejoin-fork b (remove_t p leaf) leaf (and-false (is_none (remove_t p leaf)))

-- of an inner node the child on the side of the bit
pub remove_t-inner : (b : Bool) (p : Bits) (l r : Trie) → bare l r ≡ false → remove_t (b ∷ p) (node l r) ≡ rejoin b (remove_t p (side b l r)) (side b r l)
unfolding remove_t
remove_t-inner false p l r e = rw e
remove_t-inner true p l r e = rw e

pub size-remove_t-leaf : (p : Bits) → size (remove_t p leaf) ≡ 2 * length p
unfolding remove_t size
size-remove_t-leaf [] = refl
size-remove_t-leaf (b ∷ p) = rw (remove_t-leaf b p, size-fork b (remove_t p leaf) leaf) (omega (arith, size-remove_t-leaf p))

rooted-le : (n : ℕ) → rooted n ≤ n + 1
rooted-le n = cond_both (λ k. k ≤ n + 1) (eqb n 0) 0 (n + 1) (omega arith) (omega arith)

size-remove_t-full : (p : Bits) (t : Trie) → is_leaf t ≡ true → size (remove_t p t) ≤ size t + 2 * length p
size-remove_t-full p t e = rw (leaf-is t e) (omega (arith, size-remove_t-leaf p))

-- each bit splits one leaf at most
pub size-remove_t : (p : Bits) (t : Trie) → size (remove_t p t) ≤ size t + 2 * length p
unfolding size
size-remove_t [] t = rw (remove_t-end t) (omega arith)
size-remove_t (b ∷ p) none = rw (remove_t-none (b ∷ p)) (omega arith)
size-remove_t (b ∷ p) (node l r) = go (bare l r) refl (size-remove_t p (side b l r))
  where
    go : (x : Bool) → bare l r ≡ x → size (remove_t p (side b l r)) ≤ size (side b l r) + 2 * length p → size (remove_t (b ∷ p) (node l r)) ≤ size (node l r) + 2 * length (b ∷ p)
    go true e ih = size-remove_t-full (b ∷ p) (node l r) e
    go false e ih = rw (remove_t-inner b p l r e, size-rejoin b (remove_t p (side b l r)) (side b r l)) (omega (arith, rooted-le (size (remove_t p (side b l r)) + size (side b r l)), size-side b l r))
