-- `pieces::digit_at` meets its contract. Assumes nothing.
use mathlib.Core.Path.{refl}
use Rattle.text_decimal.specs.Spans.{starts_of}
use Rattle.text_decimal.proofs.Places.{got-byte, got-none}
use Rattle.text_hex.specs.Hex.{is_hex_digit}
use Rattle.text_ipv6_runs.proofs.pieces.digit_at.Goals as goal

pub returns-in-Some : goal.returns-in-Some
unfolding starts_of
returns-in-Some c = let a = c.args in
    let h = c.in-Some.ensures.lookup in
    rw (got-byte a.s.now a.at h.0 h.1) c.is_digit.ensures

pub returns-in-None : goal.returns-in-None
unfolding starts_of
returns-in-None c = got-none c.args.s.now c.args.at (starts_of is_hex_digit) refl c.in-None.ensures.lookup.0
