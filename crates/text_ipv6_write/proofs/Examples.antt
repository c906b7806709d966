-- The addresses of RFC 5952, sections 2, 4 and 5, written by computation; and networks, their bits past the length cleared. Assumes nothing.
use mathlib.Core.List.{List, [], ◌∷◌, map}
use mathlib.Core.Path.{◌≡◌, refl}
use Prim.Native.Char.{code}
use Prim.Native.Nat.{ℕ}
use Prim.Native.String.{String}
use Rattle.nets.specs.Bits.{bits}
use Rattle.nets.specs.Networks.{width, net_bits, net_from, net_of, cleared, big_endian}
use Rattle.text_decimal.specs.Decimal.{digits_of}
use Rattle.text_hex.specs.Hex.{hex_byte_of, hex_digits_of}
use Rattle.text_ipv6_write.specs.Ipv6.{groups_of, zeros, longest_from, led, joined, both_sides, text_with, text_of, line_as6, line_of6}

abbrev bytes : String → List ℕ
bytes String.[] = []
bytes (String.◌∷◌ c s) = code c ∷ bytes s

-- eight groups
abbrev groups : ℕ → ℕ → ℕ → ℕ → ℕ → ℕ → ℕ → ℕ → List ℕ
groups a b c d e f g h = a ∷ b ∷ c ∷ d ∷ e ∷ f ∷ g ∷ h ∷ []

-- section 2.1, leading zeros; 2.2, one group of zero and several; 2.3, the case of letters
pub section-2 : map text_of (groups 0x2001 0xdb8 0xaaaa 0xbbbb 0xcccc 0xdddd 0xeeee 1 ∷ groups 0x2001 0xdb8 0xaaaa 0xbbbb 0xcccc 0xdddd 0 1
    ∷ groups 0x2001 0xdb8 0 0 0 0 0 1 ∷ groups 0x2001 0xdb8 0 0 0xaaaa 0 0 1 ∷ groups 0x2001 0xdb8 0xaaaa 0xbbbb 0xcccc 0xdddd 0xeeee 0xaaaa ∷ [])
    ≡ map bytes ("2001:db8:aaaa:bbbb:cccc:dddd:eeee:1" ∷ "2001:db8:aaaa:bbbb:cccc:dddd:0:1" ∷ "2001:db8::1" ∷ "2001:db8::aaaa:0:0:1"
    ∷ "2001:db8:aaaa:bbbb:cccc:dddd:eeee:aaaa" ∷ [])
unfolding hex_byte_of hex_digits_of zeros longest_from led joined both_sides text_with text_of
section-2 = refl

-- section 4.1; 4.2.1; 4.2.2, a single group is not shortened; 4.2.3, the longest run, then the first of equal ones
pub section-4 : map text_of (groups 0x2001 0xdb8 0 0 0 0 0 1 ∷ groups 0x2001 0xdb8 0 0 0 0 2 1 ∷ groups 0x2001 0xdb8 0 1 1 1 1 1
    ∷ groups 0x2001 0 0 1 0 0 0 1 ∷ groups 0x2001 0xdb8 0 0 1 0 0 1 ∷ [])
    ≡ map bytes ("2001:db8::1" ∷ "2001:db8::2:1" ∷ "2001:db8:0:1:1:1:1:1" ∷ "2001:0:0:1::1" ∷ "2001:db8::1:0:0:1" ∷ [])
unfolding hex_byte_of hex_digits_of zeros longest_from led joined both_sides text_with text_of
section-4 = refl

-- section 5 has a dotted quad for some prefixes: here it is written in groups, as every other; and the runs at both ends
pub section-5 : map text_of (groups 0 0 0 0 0 0xffff 0xc000 0x201 ∷ groups 0x64 0xff9b 0 0 0 0 0xc000 0x221
    ∷ groups 0 0 0 0 0 0 0 0 ∷ groups 0 0 0 0 0 0 0 1 ∷ groups 1 0 0 0 0 0 0 0 ∷ [])
    ≡ map bytes ("::ffff:c000:201" ∷ "64:ff9b::c000:221" ∷ "::" ∷ "::1" ∷ "1::" ∷ [])
unfolding hex_byte_of hex_digits_of zeros longest_from led joined both_sides text_with text_of
section-5 = refl

-- a network is written without its bits past the length; the last line is the longest there is
pub lines-written : map (λ (p : List ℕ × ℕ). line_of6 (net_of 6 (big_endian 65536 p.0 8) p.1))
    ((groups 0x2001 0xdb8 1 2 3 4 5 6, 32) ∷ (groups 0x2001 0xdb8 0 0 0 0 0 1, 128) ∷ (groups 1 2 3 4 5 6 7 8, 0)
    ∷ (groups 0x2001 0xdb8 0xabcd 0xefff 1 0 0 1, 52) ∷ (groups 0xffff 0xffff 0xffff 0xffff 0xffff 0xffff 0xffff 0xffff, 128) ∷ [])
    ≡ map bytes ("2001:db8::/32" ∷ "2001:db8::1/128" ∷ "::/0" ∷ "2001:db8:abcd:e000::/52" ∷ "ffff:ffff:ffff:ffff:ffff:ffff:ffff:ffff/128" ∷ [])
unfolding big_endian width bits net_bits net_from cleared hex_byte_of hex_digits_of digits_of groups_of zeros longest_from led joined both_sides text_with text_of line_as6
    line_of6
lines-written = refl
