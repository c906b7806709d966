-- Lines as a reader meets them: read and refused by computation. Assumes nothing.
use mathlib.Core.List.{List, [], ◌∷◌, map}
use mathlib.Core.Path.{◌≡◌, refl}
use Prim.Native.Char.{code}
use Prim.Native.Nat.{ℕ}
use Prim.Native.String.{String}
use lib.ListN.{length, replicate}
use Rattle.nets.specs.Networks.{big_endian}
use Rattle.nets.specs.declared.Net.{Net}
use Rattle.text_decimal.specs.Spans.{all_of, starts_of, leading_of, behind_of}
use Rattle.text_decimal.specs.Decimal.{is_digit, decimal_from, plain, is_number, read_number}
use Rattle.text.specs.Ipv4.{read_next, bad_text}
use Rattle.text_decimal.specs.Places.{starts_byte}
use Rattle.text_hex.specs.Hex.{is_hex_digit, hex_value, hex_number_from}
use Rattle.text_ipv6_runs.specs.Runs.{is_group}
use Rattle.text_ipv6_read.specs.Ipv6.{ipv6}
use Rattle.text_ipv6_runs.specs.Runs.{read_group, read_dotted, read_piece, goes_on, run_from}
use Rattle.text_ipv6_read.specs.Reader.{starts_double, read_address, is_outline, laid, read_line6}

abbrev bytes : String → List ℕ
bytes String.[] = []
bytes (String.◌∷◌ c s) = code c ∷ bytes s

abbrev read : String → ℕ × Net
read s = read_line6 (bytes s)

-- a:b:c:d:e:f:g:h/n
abbrev net : ℕ → ℕ → ℕ → ℕ → ℕ → ℕ → ℕ → ℕ → ℕ → Net
net a b c d e f g h n = ipv6 (a ∷ b ∷ c ∷ d ∷ e ∷ f ∷ g ∷ h ∷ []) n

-- no line is longer (is_line6-short of Answers)
abbrev longest : String
longest = "ffff:FFFF:ffff:ffff:ffff:ffff:255.255.255.255/128"

pub longest-bytes : length (bytes longest) ≡ 49
longest-bytes = refl

pub lines-read : map read ("2001:DB8:0:0:8:800:200C:417A/64" ∷ "2001:db8::8:800:200c:417a/64" ∷ "::1/128" ∷ "::/0" ∷ "1::/16" ∷ "::ffff:129.144.52.38/96" ∷ "1:2:3:4:5:6:1.2.3.4/128" ∷ "1:2:3:4:5:6:7::/112" ∷ "::2:3:4:5:6:7:8/0" ∷ longest ∷ [])
    ≡ (0, net 0x2001 0xdb8 0 0 8 0x800 0x200c 0x417a 64) ∷ (0, net 0x2001 0xdb8 0 0 8 0x800 0x200c 0x417a 64)
    ∷ (0, net 0 0 0 0 0 0 0 1 128) ∷ (0, net 0 0 0 0 0 0 0 0 0) ∷ (0, net 1 0 0 0 0 0 0 0 16) ∷ (0, net 0 0 0 0 0 0xffff 0x8190 0x3426 96)
    ∷ (0, net 1 2 3 4 5 6 0x102 0x304 128) ∷ (0, net 1 2 3 4 5 6 7 0 112) ∷ (0, net 0 2 3 4 5 6 7 8 0) ∷ (0, net 0xffff 0xffff 0xffff 0xffff 0xffff 0xffff 0xffff 0xffff 128) ∷ []
unfolding big_endian all_of starts_of leading_of behind_of is_digit decimal_from plain is_number read_number read_next starts_byte is_hex_digit hex_value hex_number_from is_group read_group read_dotted read_piece goes_on run_from starts_double read_address is_outline laid read_line6
lines-read = refl

pub lines-refused : map read ("1:2:3:4:5:6:7::8/64" ∷ "1::2::3/64" ∷ "1:2:3:4:5:6:7:8:9/64" ∷ "12345::/64" ∷ "::1.2.3.4:5/64" ∷ "1.2.3.4::/64" ∷ "fe80::1%1/64" ∷ "[::]/0" ∷ " ::/0" ∷ "::/0 " ∷ "::/129" ∷ "::/00" ∷ "::/" ∷ "::" ∷ "" ∷ ":::/0" ∷ ":/0" ∷ "1:/16" ∷ ":1/16" ∷ "1:2:3:4:5:6:7:1.2.3.4/64" ∷ "1:2:3:4:5:6:7:8::/64" ∷ "1:2:3:4:5:6:7:8:/64" ∷ "::g/64" ∷ "1.2.3.4/8" ∷ "::01.2.3.4/8" ∷ [])
    ≡ replicate 25 bad_text
unfolding big_endian all_of starts_of leading_of behind_of is_digit decimal_from plain is_number read_number read_next starts_byte is_hex_digit hex_value hex_number_from is_group read_group read_dotted read_piece goes_on run_from starts_double read_address is_outline laid read_line6
lines-refused = refl
