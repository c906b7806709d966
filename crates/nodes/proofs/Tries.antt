-- A trie's size and its words: how many they are, a node's word and what it says of the children, the words of a node taken apart and put together. Assumes nothing.
use mathlib.Core.Path.{◌≡◌, refl}
use mathlib.Core.Bool.{Bool, true, false}
use mathlib.Core.List.{List, [], ◌∷◌, ◌++◌}
use Prim.Native.Nat.{ℕ, ◌+◌, ◌*◌, ◌/◌, ◌%◌, ◌≤◌}
use native.Mathlib.Omega.{arith}
use borrow.Author.Tests.{ne_eqb}
use lib.Dec.{eqb}
use lib.ListN.{length, length-append}
use Rattle.nets.specs.Tries.{Trie, none, node, leaf, size, is_leaf, side, fork}
use Rattle.nodes.specs.Words.{link0, link1, word, enc, Has, place, word_at}
use Rattle.nodes.proofs.Has.{has-front, has-back, has-head, has-tail, has-at, has-cons, has_join}

pub length-enc : (t : Trie) → length (enc t) ≡ size t
unfolding enc size
length-enc none = refl
length-enc (node l r) = omega (arith, length-append (enc l) (enc r), length-enc l, length-enc r)

pub some : (l r : Trie) → node l r ≡ none → ⊥
some l r e = let z : ◌≡◌ {A = ℕ} 0 1 = cc in omega arith

-- Sizes: of a leaf, and of a node by the side d of a bit.
pub size-leaf : size leaf ≡ 1
unfolding size
size-leaf = refl

pub size-node : (l r : Trie) → size (node l r) ≡ 1 + size l + size r
unfolding size
size-node l r = refl

pub size-fork : (d : Bool) (x y : Trie) → size (fork d x y) ≡ 1 + size x + size y
size-fork false x y = size-node x y
size-fork true x y = omega (arith, size-node y x)

pub size-side : (d : Bool) (l r : Trie) → size (node l r) ≡ 1 + size (side d l r) + size (side d r l)
size-side false l r = size-node l r
size-side true l r = omega (arith, size-node l r)

-- Words of a leaf and of a node.
pub enc-leaf : enc leaf ≡ 0 ∷ []
unfolding enc word link0 link1
enc-leaf = refl

pub enc-node : (l r : Trie) → enc (node l r) ≡ word l r ∷ (enc l ++ enc r)
unfolding enc
enc-node l r = refl

-- The word.
link0-le : (l : Trie) → (link0 l ≤ 1) × (link0 l ≤ size l)
unfolding link0 size
link0-le none = omega arith
link0-le (node x y) = omega arith

link1-le : (l r : Trie) → link1 l r ≤ size l + size r
unfolding link1 size
link1-le l none = omega arith
link1-le l (node x y) = omega arith

module _ (l r : Trie) where
  pub word_first : word l r % 2 ≡ link0 l
  unfolding word
  word_first = omega (arith, link0-le l)

  pub word-second : word l r / 2 ≡ link1 l r
  unfolding word
  word-second = omega (arith, link0-le l)

  pub word-is : (x : ℕ) → x % 2 ≡ link0 l → x / 2 ≡ link1 l r → x ≡ word l r
  unfolding word
  word-is x p q = omega arith

  pub word-le : (word l r % 2 ≤ size l) × (word l r / 2 ≤ size l + size r)
  word-le = omega (arith, word_first, word-second, link0-le l, link1-le l r)

pub word-leaf : (l r : Trie) → eqb (word l r) 0 ≡ is_leaf (node l r)
unfolding word link0 link1
word-leaf none none = refl
word-leaf none (node x y) = ne_eqb (0 + 2 * (1 + size none)) 0 λ e. omega arith
word-leaf (node x y) r = ne_eqb (1 + 2 * link1 (node x y) r) 0 λ e. omega arith

-- A node's words: its own, and those of its children.
pub record Split (w : List ℕ) (b i : ℕ) (l r : Trie) : Type 0 where
  pub root : word_at w b i ≡ word l r
  pub left : Has w (place b (i + 1)) (enc l)
  pub right : Has w (place b (i + 1 + size l)) (enc r)

module _ {w : List ℕ} {b i : ℕ} (l r : Trie) (pos : 1 ≤ i) where
  pub apart : Has w (place b i) (enc (node l r)) → Split w b i l r
  unfolding enc
  apart h = record {
    root = has-head h;
    left = has-at (omega arith) (has-front (enc l) (enc r) (has-tail h));
    right = has-at (omega (arith, length-enc l)) (has-back (enc l) (enc r) (has-tail h));
  }

  pub joined : Split w b i l r → Has w (place b i) (enc (node l r))
  unfolding enc
  joined s =
      let a : Has w (place b i + 1) (enc l) = has-at (omega arith) s.left in
      has-cons s.root (has_join (enc l) (enc r) a (has-at (omega (arith, length-enc l)) s.right))
