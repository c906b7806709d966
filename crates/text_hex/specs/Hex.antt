-- Hexadecimal numbers in bytes: read with digits of either case, written with those of the lower.
--
--   within a b c       the byte c is one from a to b
--   is_hex_digit c       c is one of the bytes 0 to 9, a to f, A to F
--   hex_value c         the value of that digit, and 0 for any other byte
--   hex_number s        the number that the digits s write;  hex_number_from v s: behind digits that write v
--   hex_byte_of d        the byte of the digit d, in lower case
--   hex_digits_of x      the digits of x, a number below 65536, in lower case and without leading zeros
--   colon              the byte between two such numbers
use Rattle.std.specs.Prelude.{Bool, cond, ◌&&◌, ◌||◌, List, [], ◌∷◌, ℕ, ◌+◌, ◌-◌, ◌*◌, ◌/◌, ◌%◌, leb, ltb}
use Rattle.text_decimal.specs.Spans.{all_of}

abbrev pub within : ℕ → ℕ → ℕ → Bool
within a b c = leb a c && leb c b

unfoldable pub is_hex_digit : ℕ → Bool
is_hex_digit c = within 0x30 0x39 c || (within 0x61 0x66 c || within 0x41 0x46 c)

unfoldable pub hex_value : ℕ → ℕ
hex_value c = cond (within 0x30 0x39 c) (c - 0x30) (cond (within 0x61 0x66 c) (c - 0x61 + 10) (cond (within 0x41 0x46 c) (c - 0x41 + 10) 0))

abbrev pub all_hex_digits : List ℕ → Bool
all_hex_digits s = all_of is_hex_digit s

unfoldable pub hex_number_from : ℕ → List ℕ → ℕ
hex_number_from v [] = v
hex_number_from v (c ∷ s) = hex_number_from (v * 16 + hex_value c) s

abbrev pub hex_number : List ℕ → ℕ
hex_number s = hex_number_from 0 s

unfoldable pub hex_byte_of : ℕ → ℕ
hex_byte_of d = cond (ltb d 10) (0x30 + d) (0x61 + (d - 10))

unfoldable pub hex_digits_of : ℕ → List ℕ
hex_digits_of x =
    cond (ltb x 16) (hex_byte_of x ∷ [])
    (cond (ltb x 256) (hex_byte_of (x / 16) ∷ hex_byte_of (x % 16) ∷ [])
    (cond (ltb x 4096) (hex_byte_of (x / 256) ∷ hex_byte_of (x / 16 % 16) ∷ hex_byte_of (x % 16) ∷ [])
    (hex_byte_of (x / 4096) ∷ hex_byte_of (x / 256 % 16) ∷ hex_byte_of (x / 16 % 16) ∷ hex_byte_of (x % 16) ∷ [])))

abbrev pub colon : ℕ
colon = 58
