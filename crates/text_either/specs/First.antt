-- The family of an input of lines is that of its first line.
--
--   first_line s        the bytes up to the first line feed
--   first_family s      6 where these are a line of an IPv6 network, else 4
use Rattle.std.specs.Prelude.{Bool, not, cond, List, ℕ, eqb}
use Rattle.text_decimal.specs.Spans.{leading_of}
use Rattle.text_either.specs.Either.{read_either}

abbrev pub in_line : ℕ → Bool
in_line b = not (eqb b 10)

abbrev pub first_line : List ℕ → List ℕ
first_line s = leading_of in_line s

unfoldable pub family_in : List ℕ → ℕ
family_in l = cond (eqb (read_either l).0 0) (read_either l).1.family 4

unfoldable pub first_family : List ℕ → ℕ
first_family s = family_in (first_line s)
