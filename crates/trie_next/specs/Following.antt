-- The network that follows a place: what is asked and answered, and the road there.
--
--   place_of, len_of    the place in a list, and how many bits it names
--   next_as f x        what was found, as a network of the family f
--   first_of l         the first of a list
--   later_in q t       the members of t as long as q that come after q
--   above n k t       the members of the lengths k to k + n - 1
use Rattle.std.specs.Prelude.{List, [], ◌∷◌, ◌++◌, ℕ, zero, suc, length, Option, Some, None}
use Rattle.nets.specs.Bits.{Bits, before}
use Rattle.nets.specs.Tries.{Trie, bare, level}
use Rattle.nets.specs.Lists.{keep, Found, found, missing}
use Rattle.nets.specs.Lists as lists
use Rattle.nets.specs.Networks.{net_from, bits_left}
use Rattle.nets.specs.declared.Net.{Net}
use Rattle.nets.specs.declared.PrefixBits.{PrefixBits}

abbrev pub place_of : Option PrefixBits → lists.Place
place_of None = lists.start
place_of (Some s) = lists.past (bits_left s)

abbrev pub len_of : Option PrefixBits → ℕ
len_of None = 0
len_of (Some s) = s.len

abbrev pub next_as : ℕ → Found → Option Net
next_as f (found p) = Some (net_from f p)
next_as f missing = None

abbrev pub first_of : List Bits → Found
first_of [] = missing
first_of (p ∷ l) = found p

abbrev pub later_in : Bits → Trie → List Bits
later_in q t = keep (before q) (level bare (length q) t)

unfoldable pub above : ℕ → ℕ → Trie → List Bits
above zero k t = []
above (suc n) k t = level bare k t ++ above n (suc k) t
