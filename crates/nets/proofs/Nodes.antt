-- A trie has as many nodes as its list has different leading bit strings: the paths to its nodes, level by level, are those strings in order, each once.
-- Assumes nothing.
use mathlib.Core.List.{List, [], ◌∷◌}
use mathlib.Core.Path.{◌≡◌, refl, ap, sym, ◌∙◌}
use Prim.Native.Nat.{ℕ, zero, suc, ◌+◌, ◌≤◌}
use native.Mathlib.Omega.{arith}
use lib.ListN.{length, length-append, length-map}
use Rattle.nets.specs.Bits.{Bits, leads, equal}
use Rattle.nets.specs.Tries.{Trie, none, node, any, size, levels, level, below, list_of}
use Rattle.nets.specs.Lists.{member, leads_any, leadings, all_leadings, in_order, nodes_l}
use Rattle.nets.proofs.Order.{From, unique, member-in_order, from-in_order}
use Rattle.nets.proofs.Members.{any_of-append, member-map}
use Rattle.nets.proofs.Levels.{from-below, member-nodes}
use Rattle.nets.proofs.Listing.{leads_any-list_of}

-- Leading strings.
member-leadings : (p m : Bits) → member p (leadings m) ≡ leads p m
member-leadings [] [] = refl
member-leadings [] (c ∷ m) = refl
member-leadings (b ∷ p) [] = refl
member-leadings (b ∷ p) (c ∷ m) = member-map c b p (leadings m) ∙ simp (member-leadings p m)

member-all_leadings : (p : Bits) (l : List Bits) → member p (all_leadings l) ≡ leads_any p l
member-all_leadings p [] = refl
member-all_leadings p (m ∷ l) = any_of-append (equal p) (leadings m) (all_leadings l) ∙ simp (member-leadings, member-all_leadings p l)

-- The nodes of a list: the bit strings that lead some member, the empty one and the members themselves among them, in order, so each once;
pub nodes_l-is : (l : List Bits) → (nodes_l l ≡ length (in_order (all_leadings l))) × From 0 (in_order (all_leadings l)) × ((p : Bits) → member p (in_order (all_leadings l)) ≡ leads_any p l)
unfolding nodes_l
nodes_l-is l = (refl, from-in_order (all_leadings l), λ p. member-in_order p (all_leadings l) ∙ member-all_leadings p l)

-- and every ascending list of just them is as long.
pub nodes_l-length : (l m : List Bits) → From 0 m → ((p : Bits) → member p m ≡ leads_any p l) → nodes_l l ≡ length m
nodes_l-length l m i h = let n = nodes_l-is l in n.0 ∙ ap length (unique 0 0 (in_order (all_leadings l)) m n.1 i (λ p. n.2 p ∙ sym (h p)))

pub nodes_l-empty : nodes_l [] ≡ 0
unfolding nodes_l
nodes_l-empty = refl

-- The nodes of a trie, counted level by level.
level-none : (k : ℕ) → level any k none ≡ []
level-none zero = refl
level-none (suc k) = refl

below_none : (k : ℕ) → below any k none ≡ []
below_none zero = refl
below_none (suc k) = simp (below_none k, level-none)

length-below : (k : ℕ) (l r : Trie) → length (below any (suc k) (node l r)) ≡ 1 + length (below any k l) + length (below any k r)
length-below zero l r = refl
length-below (suc k) l r = simp (length-append, length-map) (omega (arith, simp length-append at (length-below k l r)))

pub size_below : (t : Trie) (k : ℕ) → levels t ≤ k → size t ≡ length (below any k t)
unfolding size levels
size_below none k h = rw (below_none k)
size_below (node l r) zero h = absurd (omega arith)
size_below (node l r) (suc k) h = omega (arith, length-below k l r, size_below l k (omega arith), size_below r k (omega arith))

pub nodes_l-list_of : (t : Trie) → nodes_l (list_of t) ≡ size t
nodes_l-list_of t =
    nodes_l-length (list_of t) (below any (levels t) t) (from-below any (levels t) t) (λ p. member-nodes any t p ∙ sym (leads_any-list_of t p))
    ∙ sym (size_below t (levels t) (omega arith))
