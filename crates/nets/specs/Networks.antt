-- A network as numbers: family, address in two 64-bit words, length. From numbers to bits and back, over the width of the family.
--
--   is_family f       the families are 4 and 6
--   width f          32 bits for family 4, 128 for family 6
--   address n        the number of the two words
--   net_bits n        the network: the first len bits of its address
--   net_from f p      the numbers of the network p: the bits past its length are clear
--   cleared n        the network n with the bits past its length cleared
--   has_bit_past n     a bit past its length is set, in the numbers as they are given: clearing will cut it
--   entered n        n taken in: its refusal, or the cleared network and whether a bit was cut
--   with_len n k      the numbers of n with the length k
--   refusal_of n      6 for another family than 4 and 6, 7 for a length or an address outside the range, 0 for a network
--   with_len_no n k    6 for another family, 7 where n or with_len n k is outside the range, else 0
--   big_endian b xs k the number that the first k digits of base b write, the most significant first
--   bits_left s       the bits that the iterator s has still to hand out;  next_of s: its next bit, and the iterator behind it
use Rattle.std.specs.Prelude.{Bool, true, false, not, cond, ◌&&◌, ◌||◌, List, [], ◌∷◌, ℕ, zero, suc, ◌+◌, ◌-◌, ◌*◌, ◌/◌, ◌%◌, ◌^◌, eqb, leb, ltb, length, take, get_or, Result, Option, Ok, Err, Some, None}
use Rattle.nets.specs.Bits.{Bits, bits, val}
use Rattle.nets.specs.Refusals.{number, answered}
use Rattle.nets.specs.declared.Net.{Net}
use Rattle.nets.specs.declared.PrefixBits.{PrefixBits}
use Rattle.nets.specs.declared.Refusal.{Refusal}

abbrev pub is_family : ℕ → Bool
is_family f = eqb f 4 || eqb f 6

unfoldable pub width : ℕ → ℕ
width f = cond (eqb f 4) 32 128

-- the number of two words; the network of two words, and of a number
abbrev pub value : ℕ → ℕ → ℕ
value hi lo = hi * 2 ^ 64 + lo

abbrev pub net_words : ℕ → ℕ → ℕ → ℕ → Net
net_words f hi lo n = record { family = f; hi = hi; lo = lo; len = n }

abbrev pub net_of : ℕ → ℕ → ℕ → Net
net_of f a n = net_words f (a / 2 ^ 64) (a % 2 ^ 64) n

abbrev pub address : Net → ℕ
address n = value n.hi n.lo

unfoldable pub net_bits : Net → Bits
net_bits n = take n.len (bits (width n.family) (address n))

unfoldable pub net_from : ℕ → Bits → Net
net_from f p = net_of f (val p * 2 ^ (width f - length p)) (length p)

unfoldable pub in_range : Net → Bool
in_range n = leb n.len (width n.family) && ltb (address n) (2 ^ width n.family)

unfoldable pub refusal_of : Net → ℕ
refusal_of n = cond (is_family n.family) (cond (in_range n) 0 7) 6

-- the answers: a network, or a refusal with zeros; and the answer to a network as given
abbrev pub no_net : Net
no_net = net_words 0 0 0 0

abbrev pub taken_as : Result Net Refusal → ℕ × Net
taken_as (Ok n) = (0, n)
taken_as (Err r) = (number r, no_net)

abbrev pub judged : Net → ℕ × Net
judged n = answered (refusal_of n) no_net n

-- the numbers with another length, and their refusal: a network is asked for before and after
abbrev pub with_len : Net → ℕ → Net
with_len n k = net_words n.family n.hi n.lo k

unfoldable pub with_len_no : Net → ℕ → ℕ
with_len_no n k = cond (is_family n.family) (cond (in_range n && in_range (with_len n k)) 0 7) 6

-- a network with the bits past its length cleared, and whether one of them is set
unfoldable pub cleared : Net → Net
cleared n = net_from n.family (net_bits n)

unfoldable pub has_bit_past : Net → Bool
has_bit_past n = not (eqb (address n % 2 ^ (width n.family - n.len)) 0)

-- taking a network in: the values stand in pairs to the right, and a refusal reports no
abbrev pub no_entry : Net × Bool
no_entry = (no_net, false)

abbrev pub entered_as : Result (Net × Bool) Refusal → ℕ × (Net × Bool)
entered_as (Ok (n, b)) = (0, (n, b))
entered_as (Err r) = (number r, no_entry)

-- by the number k of the refusal, 0 where there is none
abbrev pub taken_in : ℕ → Net → ℕ × (Net × Bool)
taken_in k n = answered k no_entry (cleared n, has_bit_past n)

abbrev pub entered : Net → ℕ × (Net × Bool)
entered n = taken_in (refusal_of n) n

unfoldable pub big_endian : ℕ → List ℕ → ℕ → ℕ
big_endian b xs zero = 0
big_endian b xs (suc k) = big_endian b xs k * b + get_or xs k 0

-- The bit iterator: len bits are still to come, from the highest of 128 on.
abbrev pub bits_words : ℕ → ℕ → ℕ → PrefixBits
bits_words hi lo n = record { hi = hi; lo = lo; len = n }

abbrev pub bits_of : ℕ → ℕ → PrefixBits
bits_of a n = bits_words (a / 2 ^ 64 % 2 ^ 64) (a % 2 ^ 64) n

unfoldable pub bits_left : PrefixBits → Bits
bits_left s = take s.len (bits 128 (value s.hi s.lo))

unfoldable pub start_of : Net → PrefixBits
start_of n = bits_of (address n * 2 ^ (128 - width n.family)) n.len

abbrev pub no_bits : PrefixBits
no_bits = bits_words 0 0 0

abbrev pub prefix_as : Result PrefixBits Refusal → ℕ × PrefixBits
prefix_as (Ok s) = (0, s)
prefix_as (Err r) = (number r, no_bits)

-- a step: whether there is a bit, the bit, and the iterator of those behind it
abbrev pub next_as : Option (Bool × PrefixBits) → ℕ × (Bool × (Bool × PrefixBits))
next_as (Some (b, s)) = (0, (true, (b, s)))
next_as None = (0, (false, (false, no_bits)))

-- the highest bit, and the others one place to the left; and the bits that a step hands out
unfoldable pub next_of : PrefixBits → ℕ × (Bool × (Bool × PrefixBits))
next_of s = (
  0,
  cond (eqb s.len 0) (false, (false, no_bits))
      (true, (eqb (value s.hi s.lo / 2 ^ 127 % 2) 1, bits_of (value s.hi s.lo * 2) (s.len - 1))),
)

abbrev pub handed : ℕ × (Bool × (Bool × PrefixBits)) → Bits
handed a = cond a.1.0 (a.1.1.0 ∷ bits_left a.1.1.1) []
