-- `ipv4::next` meets its contract. Assumes nothing.
use mathlib.Core.Bool.{true}
use mathlib.Core.Path.{◌≡◌, refl, sym, ◌∙◌}
use Prim.Native.Nat.{◌^◌, ◌≤◌, ◌<◌}
use native.Mathlib.Omega.{arith}
use lib.ListN.{drop}
use Rattle.text.specs.Ipv4.{read_next}
use Rattle.text_decimal.specs.Places.{starts_byte}
use Rattle.text_decimal.proofs.Numbers.{read_number-most}
use Rattle.text_decimal.proofs.Places.{starts-within}
use Rattle.text.proofs.Reading.{read_next-nothing, read_next-other, read_next-ended}
use Rattle.text.proofs.ipv4.next.Goals as goal

pub returns-in_err-high : goal.returns-in_err-high
unfolding read_next
returns-in_err-high c = rw (c.from_residual.ensures, c.in_err-high.was) (record { result_value = refl; result_bound = omega arith })

pub returns-in_err-low : goal.returns-in_err-low
returns-in_err-low c = let a = c.args in
    rw (c.from_residual-in_err-low.ensures, c.in_ok-high.was)
    (record { result_value = read_next-nothing a.end c.in_ok-high.high (drop c.in_ok-high.c.at a.s.now) c.in_err-low.ensures; result_bound = omega arith })

pub returns-then-not-byte_at : goal.returns-then-not-byte_at
returns-then-not-byte_at c = let a = c.args in
    rw c.in_ok-high.was (record {
      result_value = read_next-other a.end c.in_ok-high.high c.in_ok-low.low a.s.now c.in_ok-low.behind.at (drop c.in_ok-high.c.at a.s.now)
          c.in_ok-low.ensures (sym c.byte_at.ensures ∙ c.if-not-byte_at.true);
      result_bound = omega arith;
    })

-- the values fit
small : (c : goal.Else-not-byte_at) → (c.in_ok-high.high < 2 ^ 24) × (c.in_ok-low.low ≤ 255)
small c = let s = c.args.s.now in
    (rw c.in_ok-high.was at c.requires, read_number-most 255 (drop c.in_ok-high.c.at s) c.in_ok-low.low (drop c.in_ok-low.behind.at s) c.in_ok-low.ensures)

-- the byte stands behind them
ended : (c : goal.Else-not-byte_at) → let a = c.args in
    starts_byte a.end (drop c.in_ok-low.behind.at a.s.now) ≡ true
ended c = sym c.byte_at.ensures ∙ c.if-not-byte_at.false

pub overflow_mul-result : goal.overflow_mul-result
overflow_mul-result c = omega (arith, (small c).0)

pub overflow_add-result : goal.overflow_add-result
overflow_add-result c = omega (arith, (small c).0, (small c).1)

pub overflow_add-result-2 : goal.overflow_add-result-2
unfolding starts_byte
overflow_add-result-2 c = let a = c.args in
    omega (arith, starts-within (starts_byte a.end) refl a.s.now c.in_ok-low.behind.at (ended c))

pub returns : goal.returns
returns c = let a = c.args in
    rw c.in_ok-high.was (record {
      result_value = read_next-ended a.end c.in_ok-high.high c.in_ok-low.low a.s.now c.in_ok-low.behind.at (drop c.in_ok-high.c.at a.s.now) c.in_ok-low.ensures (ended c);
      result_bound = omega (arith, (small c).1);
    })
