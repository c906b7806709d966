-- Among the lists that are not shorter count those that no set holds: out of order, with members inside others, with repetitions. Two closed examples, beside
-- the one network that covers the same addresses. Assumes nothing.
use mathlib.Core.Bool.{true, false}
use mathlib.Core.List.{List, [], ◌∷◌}
use mathlib.Core.Path.{◌≡◌, refl, sym}
use Prim.Native.Nat.{◌≤◌}
use lib.ListN.{length}
use Rattle.nets.specs.Bits.{Bits, before, bits}
use Rattle.nets.specs.Tries.{levels, list_of, insert_t, trie_of, simplify_t}
use Rattle.nets.specs.Lists.{covers, within, is_list, simplify_l}
use Rattle.nets.specs.Shortest.{Exactly, Shortest}
use Rattle.nets.proofs.Fewest.{simplify-fewest, shortest-simplify, covers-same}
use Rattle.nets.proofs.Worked.{ip}

abbrev block : List Bits
block = ip 192 168 0 0 23 ∷ []

-- two halves and a quarter of the block; the block between two mentions of its half
abbrev overlapping : List Bits
overlapping = ip 192 168 1 0 24 ∷ ip 192 168 0 0 24 ∷ ip 192 168 0 128 25 ∷ []

abbrev repeated : List Bits
repeated = ip 192 168 1 0 24 ∷ ip 192 168 0 0 23 ∷ ip 192 168 1 0 24 ∷ []

-- such a list is none of a set, it covers exactly the addresses of the block, the simplified list of these is not longer, and simplifying leaves the block
abbrev Counts : List Bits → Type 0
Counts m = (is_list 32 m ≡ false) × Exactly 32 (covers block) m × (length (simplify_l block) ≤ length m) × (simplify_l m ≡ block)

counts : (m : List Bits) → is_list 32 m ≡ false → within 32 m ≡ true → simplify_l m ≡ block → Counts m
unfolding bits before levels list_of insert_t trie_of simplify_t simplify_l
counts m o h e = let x = (covers-same 32 m block h refl).1 e in (o, x, simplify-fewest 32 block m refl x, e)

pub overlapping-counts : Counts overlapping × Counts repeated
unfolding bits before levels list_of insert_t trie_of simplify_t is_list simplify_l
overlapping-counts = (counts overlapping refl refl refl, counts repeated refl refl refl)
