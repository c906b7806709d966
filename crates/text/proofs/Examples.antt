-- Lines as a reader meets them: read, refused, taken in and written by computation. Assumes nothing.
use mathlib.Core.Bool.{true, false}
use mathlib.Core.List.{List, [], ◌∷◌, map}
use mathlib.Core.Path.{◌≡◌, refl}
use Prim.Native.Char.{code}
use Prim.Native.Nat.{ℕ}
use Prim.Native.String.{String}
use lib.ListN.{replicate}
use Rattle.nets.specs.Bits.{bits}
use Rattle.nets.specs.Networks.{width, net_bits, net_from, cleared, has_bit_past}
use Rattle.nets.specs.declared.Net.{Net}
use Rattle.text_decimal.specs.Spans.{all_of, leading_of, behind_of}
use Rattle.text_decimal.specs.Decimal.{is_digit, decimal_from, plain, is_number, read_number, digits_of}
use Rattle.text.specs.Ipv4.{address, ipv4, joined, read_next, read_quad, bad_text, read_line, line_as, line_of}
use Rattle.text.specs.Answers.{entered_line}

abbrev bytes : String → List ℕ
bytes String.[] = []
bytes (String.◌∷◌ c s) = code c ∷ bytes s

abbrev read : String → ℕ × Net
read s = read_line (bytes s)

-- a.b.c.d/n
abbrev net : ℕ → ℕ → ℕ → ℕ → ℕ → Net
net a b c d n = ipv4 (address a b c d) n

pub lines-read : map read ("10.9.8.7/8" ∷ "0.0.0.0/0" ∷ "10.0.0.0/8" ∷ "255.255.255.255/32" ∷ "100.200.0.9/10" ∷ [])
    ≡ (0, net 10 9 8 7 8) ∷ (0, net 0 0 0 0 0) ∷ (0, net 10 0 0 0 8) ∷ (0, net 255 255 255 255 32) ∷ (0, net 100 200 0 9 10) ∷ []
unfolding is_digit all_of decimal_from plain is_number leading_of behind_of read_number read_next read_quad read_line
lines-read = refl

pub lines-refused : map read ("256.0.0.0/8" ∷ "1.2.3.4/33" ∷ "1.2.3/8" ∷ "1.2.3.4/" ∷ "" ∷ " 1.2.3.4/8" ∷ "1.2.3.4/8 " ∷ "1..3.4/8" ∷ []) ≡ replicate 8 bad_text
unfolding is_digit all_of decimal_from plain is_number leading_of behind_of read_number read_next read_quad read_line
lines-refused = refl

-- leading zeros
pub zeros-refused : map read ("010.0.0.0/8" ∷ "10.0.0.00/8" ∷ "10.0.0.0/08" ∷ "10.0.0.0/00" ∷ "000.0.0.0/0" ∷ "1.2.3.04/32" ∷ "0001.2.3.4/8" ∷ [])
    ≡ replicate 7 bad_text
unfolding is_digit all_of decimal_from plain is_number leading_of behind_of read_number read_next read_quad read_line
zeros-refused = refl

-- taken in: the bits past the length go, and the answer says whether one was set; a /32 has none
pub lines-entered : map (λ s. entered_line (bytes s)) ("10.9.8.7/8" ∷ "10.0.0.0/8" ∷ "0.0.0.1/0" ∷ "0.0.0.1/32" ∷ "0.0.0.1/31" ∷ [])
    ≡ (0, (net 10 0 0 0 8, true)) ∷ (0, (net 10 0 0 0 8, false)) ∷ (0, (net 0 0 0 0 0, true)) ∷ (0, (net 0 0 0 1 32, false)) ∷ (0, (net 0 0 0 0 31, true)) ∷ []
unfolding is_digit all_of decimal_from plain is_number leading_of behind_of read_number read_next read_quad read_line entered_line width bits net_bits net_from cleared has_bit_past
lines-entered = refl

pub lines-written : map line_of (net 10 9 8 7 8 ∷ net 0 0 0 0 0 ∷ net 192 168 100 255 32 ∷ [])
    ≡ map bytes ("10.0.0.0/8" ∷ "0.0.0.0/0" ∷ "192.168.100.255/32" ∷ [])
unfolding digits_of joined line_as line_of width bits net_bits net_from cleared
lines-written = refl
