-- `cursor::digit_at` meets its contract. Assumes nothing.
use mathlib.Core.Path.{refl}
use Rattle.text_decimal.specs.Spans.{starts_of}
use Rattle.text_decimal.specs.Decimal.{is_digit}
use Rattle.text_decimal.specs.Places.{starts_digit}
use Rattle.text_decimal.proofs.Places.{got-byte, got-none}
use Rattle.text_decimal.proofs.cursor.digit_at.Goals as goal

pub returns-in-Some : goal.returns-in-Some
unfolding starts_of is_digit
returns-in-Some c = let a = c.args in
    let h = c.in-Some.ensures.lookup in
    rw (got-byte a.s.now a.at h.0 h.1) c.is_ascii_digit.ensures.value

pub returns-in-None : goal.returns-in-None
unfolding starts_of
returns-in-None c = got-none c.args.s.now c.args.at starts_digit refl c.in-None.ensures.lookup.0
