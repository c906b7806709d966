-- `decimal::number` meets its contract. The loop's invariant: what is still to be read completes the number. Assumes nothing.
use mathlib.Core.Bool.{false}
use mathlib.Core.Path.{◌≡◌, sym, ◌∙◌}
use native.Mathlib.Omega.{arith}
use lib.ListN.{drop}
use Rattle.text_decimal.specs.Places.{starts_digit}
use Rattle.text_decimal.proofs.Places.{Digit, starts_digit-is}
use Rattle.text_decimal.proofs.Loop.{read_number-zero, reading-start, reading-over, reading-again, reading-none, reading-end}
use Rattle.text_decimal.proofs.decimal.number.Goals as goal

-- a digit stands where a turn begins, and none where the loop ends
digit : (c : goal.After-shared_slice_known-in-loop-value-1-unread) → Digit c.args.s.now c.loop-value.at
digit c = starts_digit-is c.args.s.now c.loop-value.at (sym c.digit_at.ensures ∙ c.loop-value-test.true)

-- a digit stands where a turn begins, and none where the loop ends
digit-shared_slice_known-in-loop-value-1 : (c : goal.After-shared_slice_known-in-loop-value-1) → Digit c.args.s.now c.loop-value.at
digit-shared_slice_known-in-loop-value-1 c = starts_digit-is c.args.s.now c.loop-value.at (sym c.digit_at.ensures ∙ c.loop-value-test.true)

-- a digit stands where a turn begins, and none where the loop ends
digit-then-most-value : (c : goal.Then-most-value) → Digit c.args.s.now c.loop-value.at
digit-then-most-value c = starts_digit-is c.args.s.now c.loop-value.at (sym c.digit_at.ensures ∙ c.loop-value-test.true)

-- a digit stands where a turn begins, and none where the loop ends
digit-else-most-value : (c : goal.Else-most-value) → Digit c.args.s.now c.loop-value.at
digit-else-most-value c = starts_digit-is c.args.s.now c.loop-value.at (sym c.digit_at.ensures ∙ c.loop-value-test.true)

no_digit : (c : goal.Then-at-start) → starts_digit (drop c.loop-value.at c.args.s.now) ≡ false
no_digit c = sym c.digit_at.ensures ∙ c.loop-value-test.false

no_digit-else-at-start : (c : goal.Else-at-start) → starts_digit (drop c.loop-value.at c.args.s.now) ≡ false
no_digit-else-at-start c = sym c.digit_at.ensures ∙ c.loop-value-test.false

pub returns-then-zero_leads : goal.returns-then-zero_leads
returns-then-zero_leads c = let a = c.args in
    read_number-zero a.most (drop a.c.at a.s.now) (sym c.zero_leads.ensures ∙ c.if-zero_leads.true)

pub loop-value-init : goal.loop-value-init
loop-value-init c = let a = c.args in reading-start a.s.now a.most a.c.at (sym c.zero_leads.ensures ∙ c.if-zero_leads.false)

pub bounds-s-at : goal.bounds-s-at
bounds-s-at c = (digit c).within

pub overflow_sub-value : goal.overflow_sub-value
overflow_sub-value c = omega (arith, digit-shared_slice_known-in-loop-value-1 c)

pub overflow_cast-value : goal.overflow_cast-value
overflow_cast-value c = omega (arith, digit-shared_slice_known-in-loop-value-1 c)

pub overflow_add-value : goal.overflow_add-value
overflow_add-value c = omega (arith, digit-shared_slice_known-in-loop-value-1 c)

pub returns-then-most-value : goal.returns-then-most-value
returns-then-most-value c = reading-over c.loop-value.invariant (digit-then-most-value c) c.if-most-value.true

pub overflow_add-at : goal.overflow_add-at
overflow_add-at c = omega (arith, digit-else-most-value c)

pub loop-value-smaller : goal.loop-value-smaller
loop-value-smaller c = omega (arith, digit-else-most-value c)

pub loop-value-preserved : goal.loop-value-preserved
loop-value-preserved c = reading-again c.loop-value.invariant (digit-else-most-value c) c.if-most-value.false

pub returns-then-at-start : goal.returns-then-at-start
returns-then-at-start c = reading-none c.loop-value.invariant (no_digit c) c.if-at-start.true

pub returns : goal.returns
returns c = reading-end c.loop-value.invariant (no_digit-else-at-start c) c.if-at-start.false
