-- Groups of an IPv6 address, from a first byte on, up to where no more follow.
--
--   is_group s          s is a group: one to four hexadecimal digits, of either case
--   read_group s        the group that s begins with, taken as far as its digits go
--   read_dotted s       the number of the four dec-octets that s begins with
--   read_piece k s      what s begins with: a quad, where two groups have room, or a group
--   goes_on s           a colon and a digit stand first
--   run_from k xs s     pieces joined by colons, up to k groups, behind the groups xs
use Rattle.std.specs.Prelude.{Bool, true, false, cond, ◌&&◌, List, [], ◌∷◌, ◌++◌, ℕ, zero, suc, ◌+◌, ◌*◌, ◌/◌, ◌%◌, leb, length, drop}
use Rattle.text_decimal.specs.Decimal.{Parsed, parsed, nothing, and_then, read_number}
use Rattle.text_decimal.specs.Places.{starts_byte}
use Rattle.text_decimal.specs.Spans.{starts_of, leading_of, behind_of}
use Rattle.text.specs.Ipv4.{dot, read_next}
use Rattle.text_hex.specs.Hex.{is_hex_digit, all_hex_digits, hex_number, colon}

unfoldable pub is_group : List ℕ → Bool
is_group s = all_hex_digits s && (leb 1 (length s) && leb (length s) 4)

unfoldable pub read_group : List ℕ → Parsed
read_group s = let d = leading_of is_hex_digit s in cond (is_group d) (parsed (hex_number d) (behind_of is_hex_digit s)) nothing

unfoldable pub read_dotted : List ℕ → Parsed
read_dotted s = and_then (read_next dot (read_next dot (read_next dot (parsed 0 s)))) (λ v t. and_then (read_number 255 t) (λ x u. parsed (v * 256 + x) u))

pub data Piece : Type 0 where
  group : ℕ → List ℕ → Piece
  quad : ℕ → List ℕ → Piece
  none : Piece

abbrev pub piece_of : Parsed → Parsed → Piece
piece_of (parsed v t) g = quad v t
piece_of nothing (parsed x t) = group x t
piece_of nothing nothing = none

unfoldable pub read_piece : ℕ → List ℕ → Piece
read_piece k s = piece_of (cond (leb 2 k) (read_dotted s) nothing) (read_group s)

unfoldable pub goes_on : List ℕ → Bool
goes_on s = starts_byte colon s && starts_of is_hex_digit (drop 1 s)

-- the groups of a run, whether a quad ended it, and what follows
pub record Ran : Type 0 where
  pub groups : List ℕ
  pub quad : Bool
  pub rest : List ℕ

abbrev pub ran : List ℕ → Bool → List ℕ → Ran
ran xs q t = record { groups = xs; quad = q; rest = t }

-- behind the groups xs and a piece at s, where f reads on behind groups and a colon
abbrev pub run_on : List ℕ → List ℕ → Piece → (List ℕ → List ℕ → Ran) → Ran
run_on xs s (group x t) f = cond (goes_on t) (f (xs ++ (x ∷ [])) (drop 1 t)) (ran (xs ++ (x ∷ [])) false t)
run_on xs s (quad v t) f = ran (xs ++ (v / 65536 ∷ v % 65536 ∷ [])) true t
run_on xs s none f = ran xs false s

unfoldable pub run_from : ℕ → List ℕ → List ℕ → Ran
run_from zero xs s = ran xs false s
run_from (suc k) xs s = run_on xs s (read_piece (suc k) s) (λ ys t. run_from k ys t)
