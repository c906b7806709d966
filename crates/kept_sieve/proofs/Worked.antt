-- Closed cases of what is left of a trie, by lists. Assumes nothing.
use mathlib.Core.Bool.{Bool, true, false}
use mathlib.Core.List.{List, [], ◌∷◌}
use mathlib.Core.Path.{◌≡◌, refl}
use Rattle.nets.specs.Bits.{Bits}
use Rattle.nets.specs.Tries.{levels, list_of, insert_t, trie_of}
use Rattle.trie_pour.specs.Pour.{pour_t}
use Rattle.kept_sieve.specs.Spare.{spare_t}

abbrev spared : Bool → List Bits → List Bits → List Bits
spared x m l = list_of (spare_t x (trie_of m) (trie_of l))

-- the empty path, the halves of all, and the first and second half of the first one
abbrev all : Bits
all = []

abbrev half0 : Bits
half0 = false ∷ []

abbrev half1 : Bits
half1 = true ∷ []

abbrev quarter0 : Bits
quarter0 = false ∷ false ∷ []

abbrev quarter1 : Bits
quarter1 = false ∷ true ∷ []

-- in: what a network leads goes, and the network does not come yet; a member that covers networks stays. Out: what a network leads goes, a member that loses
-- a part stays whole, and one that loses all goes
pub table-holds : (spared true (half0 ∷ []) (half1 ∷ quarter0 ∷ quarter1 ∷ []) ≡ half1 ∷ [])
    × (spared true (half0 ∷ []) (half0 ∷ half1 ∷ []) ≡ half1 ∷ [])
    × (spared true (quarter0 ∷ quarter1 ∷ []) (half0 ∷ []) ≡ half0 ∷ [])
    × (spared true [] (half0 ∷ half1 ∷ []) ≡ half0 ∷ half1 ∷ [])
    × (spared false (half0 ∷ []) (half1 ∷ quarter0 ∷ []) ≡ half1 ∷ [])
    × (spared false (quarter1 ∷ []) (all ∷ []) ≡ all ∷ [])
    × (spared false (half0 ∷ half1 ∷ []) (all ∷ []) ≡ [])
    × (spared false (quarter0 ∷ quarter1 ∷ []) (half0 ∷ half1 ∷ []) ≡ half1 ∷ [])
unfolding spare_t pour_t levels list_of insert_t trie_of
table-holds = (refl, refl, refl, refl, refl, refl, refl, refl)
