-- Ranges by hand, as one table under one statement: each row holds by computation over the definitions. Assumes nothing.
use Rattle.std.proofs.Common.{◌≡◌, ℕ, ◌+◌, ◌-◌, ◌*◌, ◌^◌, Bool, true, false, ◌&&◌, eqb, List, [], ◌∷◌, length, refl}
use Rattle.nets.specs.Bits.{Bits, equal, bits, before}
use Rattle.nets.specs.Tries.{list_of, levels}
use Rattle.nets.specs.Lists.{add_l}
use Rattle.nets.proofs.Worked.{ip}
use Rattle.address_order.specs.Streams.{in_address_order, put_in_order}
use Rattle.ranges.specs.Ranges.{Range, range, block_of, joined, ranges_of}
use Rattle.ranges.specs.Blocks.{part_of, range_t, nets_of, add_all, add_range_l}

-- what a row says: the ranges of a list, the networks of a range, how many they are
pub data Row : Type 0 where
  ranges : List Range → List Range → Row
  networks : List Bits → List Bits → Row
  counts : List Bits → ℕ → Row

abbrev equal_r : List Range → List Range → Bool
equal_r [] [] = true
equal_r [] (s ∷ m) = false
equal_r (r ∷ l) [] = false
equal_r (r ∷ l) (s ∷ m) = eqb r.first s.first && (eqb r.last s.last && equal_r l m)

abbrev equal_l : List Bits → List Bits → Bool
equal_l [] [] = true
equal_l [] (q ∷ m) = false
equal_l (p ∷ l) [] = false
equal_l (p ∷ l) (q ∷ m) = equal p q && equal_l l m

abbrev holds : Row → Bool
holds (ranges l m) = equal_r l m
holds (networks l m) = equal_l l m
holds (counts l n) = eqb (length l) n

abbrev all_hold : List Row → Bool
all_hold [] = true
all_hold (r ∷ t) = holds r && all_hold t

-- the address a.b.c.d
abbrev at : ℕ → ℕ → ℕ → ℕ → ℕ
at a b c d = ((a * 256 + b) * 256 + c) * 256 + d

pub table : List Row
table =
    ranges (ranges_of 32 []) []
    ∷ ranges (ranges_of 32 (ip 0 0 0 0 0 ∷ [])) (range 0 (2 ^ 32 - 1) ∷ [])
    -- two that touch are one; two with an address between them stay
    ∷ ranges (ranges_of 32 (ip 192 168 0 0 24 ∷ ip 192 168 1 0 24 ∷ [])) (range (at 192 168 0 0) (at 192 168 1 255) ∷ [])
    ∷ ranges (ranges_of 32 (ip 10 0 0 0 32 ∷ ip 10 0 0 2 32 ∷ [])) (range (at 10 0 0 0) (at 10 0 0 0) ∷ range (at 10 0 0 2) (at 10 0 0 2) ∷ [])
    -- the range that ends at the last address does not go on at zero
    ∷ ranges (ranges_of 32 (ip 0 0 0 0 8 ∷ ip 255 0 0 0 8 ∷ [])) (range 0 (at 0 255 255 255) ∷ range (at 255 0 0 0) (at 255 255 255 255) ∷ [])
    ∷ ranges (ranges_of 128 (bits 1 0 ∷ bits 8 255 ∷ [])) (range 0 (2 ^ 127 - 1) ∷ range (255 * 2 ^ 120) (2 ^ 128 - 1) ∷ [])
    ∷ networks (nets_of 32 (range (at 10 0 0 1) (at 10 0 0 6))) (ip 10 0 0 2 31 ∷ ip 10 0 0 4 31 ∷ ip 10 0 0 1 32 ∷ ip 10 0 0 6 32 ∷ [])
    ∷ networks (nets_of 32 (range 0 (2 ^ 32 - 1))) (ip 0 0 0 0 0 ∷ [])
    ∷ networks (nets_of 32 (range (at 255 255 255 255) (at 255 255 255 255))) (ip 255 255 255 255 32 ∷ [])
    -- adding joins nothing: a member that holds a network of the range keeps it out, members inside one go
    ∷ networks (add_range_l 32 (ip 10 0 0 2 32 ∷ ip 10 0 0 7 32 ∷ []) (range (at 10 0 0 1) (at 10 0 0 6)))
    (ip 10 0 0 2 31 ∷ ip 10 0 0 4 31 ∷ ip 10 0 0 1 32 ∷ ip 10 0 0 6 32 ∷ ip 10 0 0 7 32 ∷ [])
    -- the most that there are
    ∷ counts (nets_of 32 (range 1 (2 ^ 32 - 2))) 62
    ∷ counts (nets_of 128 (range 1 (2 ^ 128 - 2))) 254
    ∷ []

pub worked : all_hold table ≡ true
unfolding table ranges_of joined block_of in_address_order put_in_order nets_of range_t part_of add_range_l add_all add_l list_of levels bits before
worked = refl
