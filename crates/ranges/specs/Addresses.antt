-- Addresses as two words, and ranges as rows of four numbers.
--
--   address_of a, words_of n     the number of two words, and the words of a number
--   after_of f n                the address behind n in the width of the family f: behind the last one it is zero, which stands for the end
--   range_row r, range_rows rs   the words of the first address of a range and of its last; of ranges, one behind the other
use Rattle.std.specs.Prelude.{ℕ, ◌+◌, ◌/◌, ◌%◌, ◌^◌, List, [], ◌∷◌, ◌++◌}
use Rattle.nets.specs.Networks.{width, value}
use Rattle.ranges.specs.Ranges.{Range}
use Rattle.ranges.specs.declared.addresses.Address.{Address}

abbrev pub address_of : Address → ℕ
address_of a = value a.hi a.lo

abbrev pub words_of : ℕ → Address
words_of n = record { hi = n / 2 ^ 64; lo = n % 2 ^ 64 }

unfoldable pub after_of : ℕ → ℕ → ℕ
after_of f n = (n + 1) % 2 ^ width f

abbrev pub range_row : Range → List ℕ
range_row r = r.first / 2 ^ 64 ∷ r.first % 2 ^ 64 ∷ r.last / 2 ^ 64 ∷ r.last % 2 ^ 64 ∷ []

unfoldable pub range_rows : List Range → List ℕ
range_rows [] = []
range_rows (r ∷ rs) = range_row r ++ range_rows rs
