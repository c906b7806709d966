-- Closed cases of networks that go into a trie or out of it at once, by their lists. Assumes nothing.
use mathlib.Core.Bool.{Bool, true, false}
use mathlib.Core.List.{List, [], ◌∷◌}
use mathlib.Core.Path.{◌≡◌, refl}
use Rattle.nets.specs.Bits.{Bits}
use Rattle.nets.specs.Tries.{levels, list_of, insert_t, trie_of}
use Rattle.trie_pour.specs.Pour.{pour_t}

abbrev poured : Bool → List Bits → List Bits → List Bits
poured x m l = list_of (pour_t x (trie_of m) (trie_of l))

-- the empty path, the halves of all, and the first and second half of the first one
abbrev all : Bits
all = []

abbrev half0 : Bits
half0 = false ∷ []

abbrev half1 : Bits
half1 = true ∷ []

abbrev quarter0 : Bits
quarter0 = false ∷ false ∷ []

abbrev quarter1 : Bits
quarter1 = false ∷ true ∷ []

-- in: halves stay apart, a network takes the place of what lies inside it, and one that is covered changes nothing; out: what is covered goes, a part of a full block leaves its siblings, nothing of what is elsewhere goes
pub table-holds : (poured true (half1 ∷ []) (half0 ∷ []) ≡ half0 ∷ half1 ∷ [])
    × (poured true (half0 ∷ []) (half1 ∷ quarter0 ∷ quarter1 ∷ []) ≡ half0 ∷ half1 ∷ [])
    × (poured true (quarter0 ∷ quarter1 ∷ []) (half0 ∷ []) ≡ half0 ∷ [])
    × (poured true (half1 ∷ quarter1 ∷ []) [] ≡ half1 ∷ quarter1 ∷ [])
    × (poured false (half0 ∷ half1 ∷ []) (all ∷ []) ≡ [])
    × (poured false (quarter1 ∷ []) (all ∷ []) ≡ half1 ∷ quarter0 ∷ [])
    × (poured false (half1 ∷ []) (quarter0 ∷ quarter1 ∷ []) ≡ quarter0 ∷ quarter1 ∷ [])
    × (poured false [] (half0 ∷ half1 ∷ []) ≡ half0 ∷ half1 ∷ [])
unfolding pour_t levels list_of insert_t trie_of
table-holds = (refl, refl, refl, refl, refl, refl, refl, refl)
