-- What the inner functions say of places in bytes: what stands there, what was read, what was written.
--
--   starts_digit s, starts_byte b s   a digit, or the byte b, stands first
--   starts_zero s                    a 0 stands first, and a digit behind it
--   read_as s r                      what the answer r found in the bytes s;  value_of r: the number alone
--   Stored old at s new next        the bytes s were written over old from at on, which made new, up to next
use Rattle.std.specs.Prelude.{Bool, false, ◌&&◌, List, [], ◌∷◌, ◌≡◌, ℕ, ◌+◌, eqb, length, drop, Option, Some, None}
use Rattle.std.proofs.lemmas.List.Edits.{sets}
use Rattle.text_decimal.specs.Spans.{starts_of}
use Rattle.text_decimal.specs.Decimal.{is_digit, Parsed, parsed, nothing}
use Rattle.text_decimal.specs.declared.cursor.Cursor.{Cursor}

abbrev pub starts_digit : List ℕ → Bool
starts_digit s = starts_of is_digit s

unfoldable pub starts_byte : ℕ → List ℕ → Bool
starts_byte b [] = false
starts_byte b (c ∷ s) = eqb c b

unfoldable pub starts_zero : List ℕ → Bool
starts_zero [] = false
starts_zero (c ∷ s) = eqb c 48 && starts_digit s

abbrev pub read_as : List ℕ → Option (ℕ × Cursor) → Parsed
read_as s (Some (v, c)) = parsed v (drop c.at s)
read_as s None = nothing

abbrev pub value_of : Option (ℕ × Cursor) → ℕ
value_of (Some (v, c)) = v
value_of None = 0

pub record Stored (old : List ℕ) (at : ℕ) (s new : List ℕ) (next : ℕ) : Type 0 where
  pub place : next ≡ at + length s
  pub bytes : new ≡ sets old at s
