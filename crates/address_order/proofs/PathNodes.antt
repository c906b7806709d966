-- The nodes on the paths to the members of a trie, counted in address order, are the nodes of the trie: a bit in front of all adds one node, and the second half shares none but
-- the root with the first. And they are at most so many for each member as it has bits, and the root. Assumes nothing.
use mathlib.Core.Bool.{Bool, true, false, cond, or-true, false≢true}
use mathlib.Core.List.{List, [], ◌∷◌, ◌++◌, map}
use mathlib.Core.Path.{◌≡◌, refl, sym, ◌∙◌}
use Prim.Native.Nat.{ℕ, ◌+◌, ◌-◌, ◌*◌, ◌≤◌}
use native.Mathlib.Nat.{mul-suc}
use native.Mathlib.Omega.{arith}
use lib.Dec.{leb}
use lib.ListN.{length}
use borrow.Author.Tests.{leb-true}
use Rattle.nets.specs.Bits.{Bits, equal}
use Rattle.nets.specs.Tries.{Trie, none, node, bare, member_t, size}
use Rattle.nets.specs.Lists.{member, within}
use Rattle.nets.proofs.Strings.{and_left, and_right, same_refl}
use Rattle.nets.proofs.Members.{any_of-append}
use Rattle.nets.proofs.Listing.{bare-none, some-leaf}
use Rattle.address_order.specs.Streams.{flat, shared, more_nodes, path_nodes}
use Rattle.address_order.proofs.Flat.{halves, member-flat}

more_nodes-map : (b : Bool) (p : Bits) (l : List Bits) → more_nodes (b ∷ p) (map (λ q. b ∷ q) l) ≡ more_nodes p l
unfolding more_nodes shared
more_nodes-map b p [] = refl
more_nodes-map b p (q ∷ l) = rw (same_refl b, more_nodes-map b q l) (omega arith)

more_nodes-halves : (p : Bits) (l r : List Bits) → more_nodes (false ∷ p) (halves l r) ≡ more_nodes p l + path_nodes r
unfolding more_nodes path_nodes shared
more_nodes-halves p [] [] = refl
more_nodes-halves p [] (q ∷ r) = omega (arith, more_nodes-map true q r)
more_nodes-halves p (q ∷ l) r = omega (arith, more_nodes-halves q l r)

path_nodes-halves : (q : Bits) (l r : List Bits) → member q (l ++ r) ≡ true → path_nodes (halves l r) ≡ 1 + path_nodes l + path_nodes r
unfolding path_nodes
path_nodes-halves q [] [] k = absurd (false≢true k)
path_nodes-halves q [] (m ∷ r) k = omega (arith, more_nodes-map true m r)
path_nodes-halves q (m ∷ l) r k = omega (arith, more_nodes-halves m l r)

-- a node that is no leaf has a member in one of its halves
some_below : (l r : Trie) → bare l r ≡ false → (q : Bits) × (member q (flat l ++ flat r) ≡ true)
some_below l r e = let s = some-leaf (node l r) refl in go s.0 s.1
  where
    go : (q : Bits) → member_t q (node l r) ≡ true → (q : Bits) × (member q (flat l ++ flat r) ≡ true)
    go [] k = absurd (false≢true (sym e ∙ k))
    go (false ∷ q) k = (q, any_of-append (equal q) (flat l) (flat r) ∙ rw (member-flat q l, k))
    go (true ∷ q) k = (q, any_of-append (equal q) (flat l) (flat r) ∙ rw (member-flat q r, k) (or-true (member q (flat l))))

pub path_nodes-flat : (t : Trie) → path_nodes (flat t) ≡ size t
unfolding flat size path_nodes more_nodes
path_nodes-flat none = refl
path_nodes-flat (node l r) = go (bare l r) refl (path_nodes-flat l) (path_nodes-flat r)
  where
    go : (x : Bool) → bare l r ≡ x → path_nodes (flat l) ≡ size l → path_nodes (flat r) ≡ size r → path_nodes (cond x ([] ∷ []) (halves (flat l) (flat r))) ≡ 1 + size l + size r
    go true e i j = let h = bare-none l r e in rw (h.0, h.1)
    go false e i j = let s = some_below l r e in omega (arith, path_nodes-halves s.0 (flat l) (flat r) s.1)

-- No member adds more nodes than it has bits.
pub more_nodes-few : (w : ℕ) (p : Bits) (l : List Bits) → within w l ≡ true → more_nodes p l ≤ w * length l
unfolding more_nodes
more_nodes-few w p [] e = omega arith
more_nodes-few w p (q ∷ l) e =
    let h = leb-true (length q) w (and_left (leb (length q) w) (within w l) e) in
    rw (mul-suc w (length l)) (omega (arith, more_nodes-few w q l (and_right (leb (length q) w) (within w l) e)))

pub path_nodes-few : (w : ℕ) (l : List Bits) → within w l ≡ true → path_nodes l ≤ 1 + w * length l
unfolding path_nodes
path_nodes-few w [] e = omega arith
path_nodes-few w (q ∷ l) e =
    let h = leb-true (length q) w (and_left (leb (length q) w) (within w l) e) in
    rw (mul-suc w (length l)) (omega (arith, more_nodes-few w q l (and_right (leb (length q) w) (within w l) e)))
