-- The networks of a list in address order: a network before what lies inside it, else the smaller address first. That is the order in which the leaves of a trie stand in its words.
--
--   flat t            the members of a trie in address order
--   earlier p q       p comes before q in address order
--   rising ms         strictly ascending in address order
--   in_address_order l  a list in address order
--   of_length k l      the members with k bits
--   shared p q        how many leading bits p and q have in common
--   loose ms          no member lies inside the one before it
--   path_nodes ms      the nodes of the trie of ms: all of the first member's, and of each other those that it does not share with the one before it
use Rattle.std.specs.Prelude.{Bool, true, false, not, cond, ◌&&◌, List, [], ◌∷◌, ◌++◌, map, ℕ, zero, suc, ◌+◌, ◌-◌, eqb, length}
use Rattle.std.specs.Bool.{beq as same}
use Rattle.nets.specs.Bits.{Bits, leads, equal}
use Rattle.nets.specs.Tries.{Trie, none, node, bare}
use Rattle.nets.specs.Lists.{keep}

unfoldable pub flat : Trie → List Bits
flat none = []
flat (node l r) = cond (bare l r) ([] ∷ []) (map (λ p. false ∷ p) (flat l) ++ map (λ p. true ∷ p) (flat r))

abbrev pub earlier : Bits → Bits → Bool
earlier [] [] = false
earlier [] (c ∷ q) = true
earlier (b ∷ p) [] = false
earlier (b ∷ p) (c ∷ q) = cond (same b c) (earlier p q) c

unfoldable pub rising : List Bits → Bool
rising [] = true
rising (p ∷ []) = true
rising (p ∷ q ∷ ms) = earlier p q && rising (q ∷ ms)

unfoldable pub put_in_order : Bits → List Bits → List Bits
put_in_order n [] = n ∷ []
put_in_order n (m ∷ ms) = cond (earlier n m) (n ∷ m ∷ ms) (m ∷ put_in_order n ms)

unfoldable pub in_address_order : List Bits → List Bits
in_address_order [] = []
in_address_order (n ∷ l) = put_in_order n (in_address_order l)

abbrev pub of_length : ℕ → List Bits → List Bits
of_length k l = keep (λ p. eqb (length p) k) l

unfoldable pub shared : Bits → Bits → ℕ
shared [] q = 0
shared (b ∷ p) [] = 0
shared (b ∷ p) (c ∷ q) = cond (same b c) (suc (shared p q)) 0

unfoldable pub loose : List Bits → Bool
loose [] = true
loose (p ∷ []) = true
loose (p ∷ q ∷ ms) = not (leads p q) && loose (q ∷ ms)

-- the nodes that the members behind p add
unfoldable pub more_nodes : Bits → List Bits → ℕ
more_nodes p [] = 0
more_nodes p (q ∷ ms) = (length q - shared p q) + more_nodes q ms

unfoldable pub path_nodes : List Bits → ℕ
path_nodes [] = 0
path_nodes (p ∷ ms) = suc (length p) + more_nodes p ms
