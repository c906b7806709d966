-- The inner networks are those of the lines that request M-112 has, in list order: each line is read as its network, by computation. Assumes nothing.
use mathlib.Core.List.{List, [], ◌∷◌, map}
use mathlib.Core.Path.{◌≡◌, refl}
use Prim.Native.Char.{code}
use Prim.Native.Nat.{ℕ}
use Prim.Native.String.{String}
use Rattle.nets.specs.Networks.{big_endian}
use Rattle.inner_nets.specs.Inner.{inner_nets4, inner_nets6}
use Rattle.text_decimal.specs.Spans.{all_of, starts_of, leading_of, behind_of}
use Rattle.text_decimal.specs.Decimal.{is_digit, decimal_from, plain, is_number, read_number}
use Rattle.text.specs.Ipv4.{read_next, read_quad, read_line}
use Rattle.text_decimal.specs.Places.{starts_byte}
use Rattle.text_hex.specs.Hex.{is_hex_digit, hex_value, hex_number_from}
use Rattle.text_ipv6_runs.specs.Runs.{is_group}
use Rattle.text_ipv6_runs.specs.Runs.{read_group, read_dotted, read_piece, goes_on, run_from}
use Rattle.text_ipv6_read.specs.Reader.{starts_double, read_address, is_outline, laid, read_line6}

abbrev bytes : String → List ℕ
bytes String.[] = []
bytes (String.◌∷◌ c s) = code c ∷ bytes s

pub inner-lines-4 : map (λ s. read_line (bytes s)) ("10.0.0.0/8" ∷ "127.0.0.0/8" ∷ "100.64.0.0/10" ∷ "172.16.0.0/12" ∷ "169.254.0.0/16" ∷ "192.168.0.0/16" ∷ []) ≡ map (λ n. (0, n)) inner_nets4
unfolding inner_nets4 all_of leading_of behind_of is_digit decimal_from plain is_number read_number read_next read_quad read_line
inner-lines-4 = refl

pub inner-lines-6 : map (λ s. read_line6 (bytes s)) ("fc00::/7" ∷ "fe80::/10" ∷ "::ffff:0:0/96" ∷ "::1/128" ∷ []) ≡ map (λ n. (0, n)) inner_nets6
unfolding inner_nets6 big_endian all_of starts_of leading_of behind_of is_digit decimal_from plain is_number read_number read_next starts_byte is_hex_digit hex_value hex_number_from is_group read_group read_dotted read_piece goes_on run_from starts_double read_address is_outline laid read_line6
inner-lines-6 = refl
