-- The orders and groupings in which sets can be merged.
--
--   Grouping       a set by its number, or two groupings merged;  ends g: the sets in it, from left to right
--   names g ks     the sets in g are the sets ks, in any order, each at least once
--   merged_l f g    the list that g makes, where f k is the list of set k
use Rattle.std.specs.Prelude.{Bool, true, false, ◌&&◌, ◌||◌, List, [], ◌∷◌, ◌++◌, ℕ, eqb}
use Rattle.nets.specs.Bits.{Bits}
use Rattle.nets.specs.Lists.{merge_l}

pub data Grouping : Type 0 where
  set : ℕ → Grouping
  both : Grouping → Grouping → Grouping

abbrev pub ends : Grouping → List ℕ
ends (set k) = k ∷ []
ends (both g h) = ends g ++ ends h

-- f holds of some number, and of every one
abbrev pub some_of : (ℕ → Bool) → List ℕ → Bool
some_of f [] = false
some_of f (k ∷ ks) = f k || some_of f ks

abbrev pub every_of : (ℕ → Bool) → List ℕ → Bool
every_of f [] = true
every_of f (k ∷ ks) = f k && every_of f ks

abbrev pub is_in : List ℕ → ℕ → Bool
is_in ks k = some_of (eqb k) ks

abbrev pub names : Grouping → List ℕ → Bool
names g ks = every_of (is_in (ends g)) ks && every_of (is_in ks) (ends g)

abbrev pub merged_l : (ℕ → List Bits) → Grouping → List Bits
merged_l f (set k) = f k
merged_l f (both g h) = merge_l (merged_l f g) (merged_l f h)
