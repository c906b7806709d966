-- The scope document's worked networks that are to be proved, as one table under one statement: each row holds, by computation over the list definitions.
-- Assumes nothing.
use mathlib.Core.Bool.{Bool, true, false, ◌&&◌, beq as same}
use mathlib.Core.List.{List, [], ◌∷◌}
use mathlib.Core.Path.{◌≡◌, refl}
use Prim.Native.Nat.{ℕ, ◌+◌, ◌*◌}
use lib.Dec.{eqb}
use lib.ListN.{length, take}
use Rattle.nets.specs.Bits.{Bits, equal, bits, before}
use Rattle.nets.specs.Tries.{size, levels, list_of, insert_t, trie_of, simplify_t}
use Rattle.nets.specs.Lists.{Found, found, missing, nodes_l, add_l, remove_l, simplify_l, intersect_l, exclude_l, difference_l, supernet_l, contains_l}
use Rattle.nets.specs.Networks.{in_range, refusal_of, width}

-- what a row says of a result: the list and its nodes, how many networks and nodes, what is found, whether it is contained, which refusal it gets
pub data Row : Type 0 where
  lists : List Bits → List Bits → ℕ → Row
  counts : List Bits → ℕ → ℕ → Row
  finds : Found → Found → Row
  contains : Bool → Bool → Row
  refused : ℕ → ℕ → Row

abbrev equal_l : List Bits → List Bits → Bool
equal_l [] [] = true
equal_l [] (q ∷ m) = false
equal_l (p ∷ l) [] = false
equal_l (p ∷ l) (q ∷ m) = equal p q && equal_l l m

abbrev equal_f : Found → Found → Bool
equal_f missing missing = true
equal_f missing (found q) = false
equal_f (found p) missing = false
equal_f (found p) (found q) = equal p q

abbrev holds : Row → Bool
holds (lists l m n) = equal_l l m && eqb (nodes_l l) n
holds (counts l k n) = eqb (length l) k && eqb (nodes_l l) n
holds (finds f g) = equal_f f g
holds (contains b c) = same b c
holds (refused k n) = eqb k n

abbrev all_hold : List Row → Bool
all_hold [] = true
all_hold (r ∷ t) = holds r && all_hold t

-- a.b.c.d/n
abbrev pub ip : ℕ → ℕ → ℕ → ℕ → ℕ → Bits
ip a b c d n = take n (bits 32 (((a * 256 + b) * 256 + c) * 256 + d))

abbrev two : List Bits
two = add_l (add_l [] (ip 192 168 0 0 24)) (ip 192 168 1 0 24)

abbrev all : List Bits
all = add_l [] (ip 0 0 0 0 0)

pub table : List Row
table =
    finds (supernet_l [] (ip 0 0 0 0 0)) missing
    ∷ lists (add_l all (ip 10 0 0 0 8)) (ip 0 0 0 0 0 ∷ []) 1
    ∷ lists (remove_l all (ip 0 0 0 0 1)) (ip 128 0 0 0 1 ∷ []) 2
    ∷ counts (remove_l all (ip 255 255 255 255 32)) 32 64
    ∷ lists (remove_l (add_l [] (ip 192 168 0 0 23)) (ip 192 168 0 0 24)) (ip 192 168 1 0 24 ∷ []) 25
    ∷ lists two (ip 192 168 0 0 24 ∷ ip 192 168 1 0 24 ∷ []) 26
    ∷ contains (contains_l two (ip 192 168 0 0 23)) false
    ∷ lists (simplify_l two) (ip 192 168 0 0 23 ∷ []) 24
    ∷ lists (exclude_l two []) (ip 192 168 0 0 24 ∷ ip 192 168 1 0 24 ∷ []) 26
    ∷ lists (difference_l two []) (ip 192 168 0 0 23 ∷ []) 24
    ∷ lists (intersect_l two (ip 192 168 0 0 23 ∷ [])) (ip 192 168 0 0 23 ∷ []) 24
    ∷ refused (refusal_of (record { family = 4; hi = 0; lo = 0; len = 33 })) 7
    ∷ lists (remove_l two (ip 0 0 0 0 0)) [] 0
    ∷ []

pub worked : all_hold table ≡ true
unfolding table bits before size levels list_of insert_t trie_of simplify_t nodes_l add_l remove_l simplify_l intersect_l exclude_l difference_l supernet_l contains_l in_range refusal_of width
worked = refl
