-- `pieces::goes_on` meets its contract. Assumes nothing.
use mathlib.Core.Path.{refl, sym, ◌∙◌}
use native.Mathlib.Omega.{arith}
use lib.ListN.{drop}
use Rattle.text_decimal.specs.Places.{starts_byte}
use Rattle.text_decimal.proofs.Places.{starts-within}
use Rattle.text_hex.specs.Hex.{colon}
use Rattle.text_ipv6_runs.proofs.Found.{goes_on-other, goes_on-behind}
use Rattle.text_ipv6_runs.proofs.pieces.goes_on.Goals as goal

pub overflow_add-at : goal.overflow_add-at
unfolding starts_byte
overflow_add-at c = let a = c.args in
    omega (arith, starts-within (starts_byte colon) refl a.s.now a.at (sym c.byte_at.ensures ∙ c.if-byte_at.true))

pub returns-then-byte_at : goal.returns-then-byte_at
unfolding starts_byte
returns-then-byte_at c = let a = c.args in
    c.digit_at.ensures ∙ goes_on-behind a.s.now a.at (sym c.byte_at.ensures ∙ c.if-byte_at.true)

pub returns-else-byte_at : goal.returns-else-byte_at
unfolding starts_byte
returns-else-byte_at c = let a = c.args in
    c.if-byte_at.false ∙ goes_on-other (drop a.at a.s.now) (sym c.byte_at.ensures ∙ c.if-byte_at.false)
