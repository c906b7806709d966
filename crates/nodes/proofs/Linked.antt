-- A node's word by the ends of its children is the word of the trie. Assumes nothing.
use mathlib.Core.Path.{◌≡◌}
use mathlib.Core.Bool.{Bool, true, false, cond}
use Prim.Native.Nat.{ℕ, ◌+◌, ◌-◌, ◌≤◌}
use native.Mathlib.Omega.{arith}
use borrow.Author.Tests.{eq-eqb, ne_eqb}
use lib.Dec.{eqb}
use Rattle.nets.specs.Tries.{Trie, none, node, size}
use Rattle.nodes.specs.Words.{link0, link1, word}
use Rattle.nodes.specs.Links.{to_first, to_second, linked}

pub to_first-le : (i m : ℕ) → to_first i m ≤ 1
to_first-le i m = go (eqb (i + 1) m)
  where
    go : (x : Bool) → cond x 0 1 ≤ 1
    go true = omega arith
    go false = omega arith

pub to_second-le : (i m e : ℕ) → to_second i m e ≤ m
to_second-le i m e = go (eqb m e)
  where
    go : (x : Bool) → cond x 0 (m - i) ≤ m
    go true = omega arith
    go false = omega arith

to_first-is : (l : Trie) (i m : ℕ) → m ≡ i + 1 + size l → to_first i m ≡ link0 l
unfolding link0 size
to_first-is none i m e = rw (eq-eqb (i + 1) m (omega arith))
to_first-is (node x y) i m e = rw (ne_eqb (i + 1) m λ h. omega arith)

to_second-is : (l r : Trie) (i m e : ℕ) → m ≡ i + 1 + size l → e ≡ m + size r → to_second i m e ≡ link1 l r
unfolding link1 size
to_second-is l none i m e p q = rw (eq-eqb m e (omega arith))
to_second-is l (node x y) i m e p q = rw (ne_eqb m e λ h. omega arith) (omega arith)

pub linked-is : (l r : Trie) (i m e : ℕ) → m ≡ i + 1 + size l → e ≡ m + size r → linked i m e ≡ word l r
unfolding word linked
linked-is l r i m e p q = rw (to_first-is l i m p, to_second-is l r i m e p q)
