-- Ranges of addresses, and the ranges of a list. An address is a number below 2^w, where w is the width of the family: there is none behind the last, so no
-- range goes on from there.
--
--   holds r a         the range r has the address a;  in_some rs a: one of the ranges rs has it
--   spaced rs         ascending and apart: each begins where it ends or before, and between two of them there is an address that neither has
--   block_of w p       the range of the network p
--   joined rs         the ranges rs, of which those that touch are joined
--   ranges_of w l      the ranges of a list
--   address_in w l a   a is an address, and the list l covers it
--   Covering w l rs   the ranges rs have exactly the addresses of the list l. They are any ranges: in any order, meeting others, or empty
use Rattle.std.specs.Prelude.{◌≡◌, ℕ, suc, ◌+◌, ◌-◌, ◌*◌, ◌^◌, Bool, true, false, cond, ◌&&◌, ◌||◌, List, [], ◌∷◌, map, length, ◌==◌, nat_le, nat_lt}
use Rattle.nets.specs.Bits.{Bits, val, bits}
use Rattle.nets.specs.Lists.{covers}
use Rattle.address_order.specs.Streams.{in_address_order}

pub record Range : Type 0 where
  pub first : ℕ
  pub last : ℕ

abbrev pub range : ℕ → ℕ → Range
range a b = record { first = a; last = b }

abbrev pub holds : Range → ℕ → Bool
holds r a = nat_le r.first a && nat_le a r.last

abbrev pub in_some : List Range → ℕ → Bool
in_some [] a = false
in_some (r ∷ rs) a = holds r a || in_some rs a

unfoldable pub spaced : List Range → Bool
spaced [] = true
spaced (r ∷ []) = nat_le r.first r.last
spaced (r ∷ s ∷ rs) = nat_le r.first r.last && (nat_lt (suc r.last) s.first && spaced (s ∷ rs))

unfoldable pub block_of : ℕ → Bits → Range
block_of w p = range (val p * 2 ^ (w - length p)) (val p * 2 ^ (w - length p) + (2 ^ (w - length p) - 1))

-- r in front of ranges that follow it: one with the first of them where that begins right behind it
abbrev pub join : Range → List Range → List Range
join r [] = r ∷ []
join r (s ∷ rs) = cond (suc r.last == s.first) (range r.first s.last ∷ rs) (r ∷ s ∷ rs)

unfoldable pub joined : List Range → List Range
joined [] = []
joined (r ∷ rs) = join r (joined rs)

unfoldable pub ranges_of : ℕ → List Bits → List Range
ranges_of w l = joined (map (block_of w) (in_address_order l))

abbrev pub address_in : ℕ → List Bits → ℕ → Bool
address_in w l a = nat_lt a (2 ^ w) && covers l (bits w a)

abbrev pub Covering : ℕ → List Bits → List Range → Type 0
Covering w l rs = (a : ℕ) → in_some rs a ≡ address_in w l a
