-- Decimal numbers in bytes.
--
--   is_digit c          c is one of the bytes 0 to 9
--   decimal s          the number that the digits s write;  decimal_from v s: behind digits that write v
--   plain s            s has no leading zero: 0 stands first only where it stands alone
--   is_number m s       s is a number, at most m, without a leading zero: the one rule for a number
--   leading s          the digits that s begins with;  behind s: what follows them
--   read_number m s     the number that s begins with, taken as far as its digits go
--   digits_of x         the digits of x, a number below 1000, without leading zeros
use Rattle.std.specs.Prelude.{Bool, true, not, cond, ◌&&◌, List, [], ◌∷◌, ℕ, ◌+◌, ◌-◌, ◌*◌, ◌/◌, ◌%◌, eqb, leb, ltb, length}
use Rattle.text_decimal.specs.Spans.{all_of, leading_of, behind_of}

unfoldable pub is_digit : ℕ → Bool
is_digit c = leb 48 c && leb c 57

abbrev pub all_digits : List ℕ → Bool
all_digits s = all_of is_digit s

unfoldable pub decimal_from : ℕ → List ℕ → ℕ
decimal_from v [] = v
decimal_from v (c ∷ s) = decimal_from (v * 10 + (c - 48)) s

abbrev pub decimal : List ℕ → ℕ
decimal s = decimal_from 0 s

unfoldable pub plain : List ℕ → Bool
plain [] = true
plain (c ∷ []) = true
plain (c ∷ d ∷ s) = not (eqb c 48)

unfoldable pub is_number : ℕ → List ℕ → Bool
is_number m s = all_digits s && (leb 1 (length s) && (plain s && leb (decimal s) m))

abbrev pub leading : List ℕ → List ℕ
leading s = leading_of is_digit s

abbrev pub behind : List ℕ → List ℕ
behind s = behind_of is_digit s

-- what reading finds: a number and what stands behind it, or nothing
pub data Parsed : Type 0 where
  parsed : ℕ → List ℕ → Parsed
  nothing : Parsed

abbrev pub and_then : Parsed → (ℕ → List ℕ → Parsed) → Parsed
and_then (parsed v s) f = f v s
and_then nothing f = nothing

unfoldable pub read_number : ℕ → List ℕ → Parsed
read_number m s = cond (is_number m (leading s)) (parsed (decimal (leading s)) (behind s)) nothing

-- the byte of a digit
abbrev pub byte_of : ℕ → ℕ
byte_of d = 48 + d

unfoldable pub digits_of : ℕ → List ℕ
digits_of x =
    cond (ltb x 10) (byte_of x ∷ [])
    (cond (ltb x 100) (byte_of (x / 10) ∷ byte_of (x % 10) ∷ []) (byte_of (x / 100) ∷ byte_of (x / 10 % 10) ∷ byte_of (x % 10) ∷ []))
