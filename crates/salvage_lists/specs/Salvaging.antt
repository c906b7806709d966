-- What is left of the entries of a file, step by step as the request has it.
--
--   whole_entries f d      how many whole entries of the family f stand in the bytes d from byte 16 on: a last partial one is ignored
--   is_long n              the length of an entry is out of range
--   in_range_in f d i k     the networks of the k entries from entry i on, without those with a length out of range; the bits past a length are no part of a network, so they are cleared
--   long_in, trimmed_in     how many of them have a length out of range, and how many others have a bit set past it
--   is_inside l p          p lies strictly inside a member of l
--   covered_in l           how many entries of l lie strictly inside another or are equal to an earlier one
--   outermost l           what is left: the members that lie inside no other, each once, in the order of a list
use Rattle.std.specs.Prelude.{Bool, true, not, cond, ◌&&◌, ◌||◌, List, [], ◌∷◌, ℕ, zero, suc, ◌+◌, ◌-◌, ◌/◌, ltb, length}
use Rattle.nets.specs.Bits.{Bits, leads, equal, digit}
use Rattle.nets.specs.Lists.{any_of, member, keep, in_order}
use Rattle.nets.specs.Networks.{width, net_bits, has_bit_past}
use Rattle.nets.specs.declared.Net.{Net}
use Rattle.setfile_format.specs.Files.{header_bytes, entry_bytes, entry_net}

unfoldable pub whole_entries : ℕ → List ℕ → ℕ
whole_entries f d = (length d - header_bytes) / entry_bytes f

unfoldable pub is_long : Net → Bool
is_long n = ltb (width n.family) n.len

unfoldable pub in_range_in : ℕ → List ℕ → ℕ → ℕ → List Bits
in_range_in f d i zero = []
in_range_in f d i (suc k) = cond (is_long (entry_net f d i)) (in_range_in f d (suc i) k) (net_bits (entry_net f d i) ∷ in_range_in f d (suc i) k)

unfoldable pub long_in : ℕ → List ℕ → ℕ → ℕ → ℕ
long_in f d i zero = 0
long_in f d i (suc k) = digit (is_long (entry_net f d i)) + long_in f d (suc i) k

unfoldable pub trimmed_in : ℕ → List ℕ → ℕ → ℕ → ℕ
trimmed_in f d i zero = 0
trimmed_in f d i (suc k) = digit (not (is_long (entry_net f d i)) && has_bit_past (entry_net f d i)) + trimmed_in f d (suc i) k

-- p lies in m and is not m itself
abbrev pub strictly : Bits → Bits → Bool
strictly m p = leads m p && not (equal m p)

abbrev pub is_inside : List Bits → Bits → Bool
is_inside l p = any_of (λ m. strictly m p) l

-- of the entries l, of which `all` are all and those in `seen` came before
unfoldable pub covered_of : List Bits → List Bits → List Bits → ℕ
covered_of all seen [] = 0
covered_of all seen (p ∷ l) = digit (is_inside all p || member p seen) + covered_of all (p ∷ seen) l

unfoldable pub covered_in : List Bits → ℕ
covered_in l = covered_of l [] l

unfoldable pub outermost : List Bits → List Bits
outermost l = in_order (keep (λ p. not (is_inside l p)) l)
