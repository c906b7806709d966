-- `pieces::group` meets its contract. The loop's invariant: what is still to be read completes the group. Assumes nothing.
use mathlib.Core.Bool.{true, false}
use mathlib.Core.Path.{◌≡◌, sym, ◌∙◌}
use Prim.Native.Nat.{◌<◌}
use native.Mathlib.Omega.{arith}
use lib.ListN.{length, drop}
use Rattle.text_decimal.specs.Spans.{starts_of}
use Rattle.text_decimal.proofs.Places.{starts_of-at}
use Rattle.text_hex.specs.Hex.{is_hex_digit}
use Rattle.text_ipv6_runs.proofs.Loop.{reading-start, reading_small, reading-over, reading-again, reading-none, reading-end}
use Rattle.text_ipv6_runs.proofs.pieces.group.Goals as goal

-- a digit stands where a turn begins, and none where the loop ends
digit : (c : goal.Then-at-start-eq4) → starts_of is_hex_digit (drop c.loop-start.at c.args.s.now) ≡ true
digit c = sym c.digit_at.ensures ∙ c.loop-start-test.true

-- a digit stands where a turn begins, and none where the loop ends
digit-shared_slice_known-in-loop-start-1-unread : (c : goal.After-shared_slice_known-in-loop-start-1-unread) → starts_of is_hex_digit (drop c.loop-start.at c.args.s.now) ≡ true
digit-shared_slice_known-in-loop-start-1-unread c = sym c.digit_at.ensures ∙ c.loop-start-test.true

within : (c : goal.After-shared_slice_known-in-loop-start-1-unread) → c.loop-start.at < length c.args.s.now
within c = (starts_of-at is_hex_digit c.args.s.now c.loop-start.at (digit-shared_slice_known-in-loop-start-1-unread c)).0

-- a digit stands where a turn begins, and none where the loop ends
digit-value : (c : goal.After-value) → starts_of is_hex_digit (drop c.loop-start.at c.args.s.now) ≡ true
digit-value c = sym c.digit_at.ensures ∙ c.loop-start-test.true

within-value : (c : goal.After-value) → c.loop-start.at < length c.args.s.now
within-value c = (starts_of-at is_hex_digit c.args.s.now c.loop-start.at (digit-value c)).0

no_digit : (c : goal.Then-at-start) → starts_of is_hex_digit (drop c.loop-start.at c.args.s.now) ≡ false
no_digit c = sym c.digit_at.ensures ∙ c.loop-start-test.false

no_digit-else-at-start : (c : goal.Else-at-start) → starts_of is_hex_digit (drop c.loop-start.at c.args.s.now) ≡ false
no_digit-else-at-start c = sym c.digit_at.ensures ∙ c.loop-start-test.false

pub loop-start-init : goal.loop-start-init
loop-start-init c = reading-start c.args.s.now c.args.start

pub overflow_sub-at : goal.overflow_sub-at
overflow_sub-at c = omega (arith, c.loop-start.invariant.onward)

pub returns-then-at-start-eq4 : goal.returns-then-at-start-eq4
returns-then-at-start-eq4 c = reading-over c.loop-start.invariant (digit c) c.if-at-start-eq4.true

pub overflow_mul-value : goal.overflow_mul-value
overflow_mul-value c = omega (arith, reading_small c.loop-start.invariant)

pub bounds-s-at : goal.bounds-s-at
bounds-s-at c = within c

pub overflow_add-value : goal.overflow_add-value
overflow_add-value c = omega (arith, reading_small c.loop-start.invariant, c.value.ensures.upper_bound)

pub overflow_add-at : goal.overflow_add-at
overflow_add-at c = omega (arith, within-value c)

pub loop-start-smaller : goal.loop-start-smaller
loop-start-smaller c = omega (arith, within-value c)

pub loop-start-preserved : goal.loop-start-preserved
loop-start-preserved c = rw c.value.ensures.value (reading-again c.loop-start.invariant (digit-value c) c.if-at-start-eq4.false)

pub returns-then-at-start : goal.returns-then-at-start
returns-then-at-start c = reading-none c.loop-start.invariant (no_digit c) c.if-at-start.true

pub returns : goal.returns
returns c = reading-end c.loop-start.invariant (no_digit-else-at-start c) c.if-at-start.false
