-- Document 01's rule for a line, as it was before leading zeros were refused: four numbers of one to three digits, at most 255, then a length of one or two
-- digits, at most 32. Only the laws of proofs/Before cite it; they say what became of its lines.
--
--   was_number k m s    s was a number: one to k digits, at most m
--   WasLine s n        s was a line of the network n
--   zero_led s          a number in s, of two or more digits, begins with 0;  zero_led_from b s: b where a digit stands before s
use Rattle.std.specs.Prelude.{Bool, false, not, ◌&&◌, ◌||◌, List, [], ◌∷◌, ℕ, leb, length}
use Rattle.nets.specs.declared.Net.{Net}
use Rattle.text_decimal.specs.Decimal.{is_digit, all_digits, decimal}
use Rattle.text.specs.Ipv4.{Line}
use Rattle.text_decimal.specs.Places.{starts_zero}

unfoldable pub was_number : ℕ → ℕ → List ℕ → Bool
was_number k m s = all_digits s && (leb 1 (length s) && (leb (length s) k && leb (decimal s) m))

abbrev pub WasLine : List ℕ → Net → Type 0
WasLine s n = Line (was_number 3 255) (was_number 2 32) s n

unfoldable pub zero_led_from : Bool → List ℕ → Bool
zero_led_from b [] = false
zero_led_from b (c ∷ s) = (not b && starts_zero (c ∷ s)) || zero_led_from (is_digit c) s

abbrev pub zero_led : List ℕ → Bool
zero_led s = zero_led_from false s
