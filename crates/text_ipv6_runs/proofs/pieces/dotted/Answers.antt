-- `pieces::dotted` meets its contract: what its calls read is what `read_dotted` reads. Assumes nothing.
use mathlib.Core.Path.{◌≡◌, ap, ◌∙◌}
use Prim.Native.Nat.{◌^◌, ◌≤◌, ◌<◌}
use native.Mathlib.Omega.{arith}
use lib.ListN.{drop}
use Rattle.text_decimal.specs.Decimal.{Parsed, parsed}
use Rattle.text_decimal.specs.Places.{value_of}
use Rattle.text_decimal.proofs.Numbers.{read_number-most}
use Rattle.text.specs.Ipv4.{dot, read_next}
use Rattle.text.proofs.Reading.{read_as-is}
use Rattle.text_ipv6_runs.proofs.Found.{read_dotted-nothing, read_dotted-unread, read_dotted-read}
use Rattle.text_ipv6_runs.proofs.pieces.dotted.Goals as goal

-- three numbers, each behind the one before it
joined : (p : Parsed) {x y z : Parsed} → z ≡ read_next dot y → y ≡ read_next dot x → x ≡ read_next dot p → z ≡ read_next dot (read_next dot (read_next dot p))
joined p h g f = h ∙ ap (read_next dot) (g ∙ ap (read_next dot) f)

pub returns-in_err-high : goal.returns-in_err-high
returns-in_err-high c = let a = c.args in
    let h = joined (parsed 0 (drop a.start a.s.now)) c.next-c.ensures.result_value c.next-b.ensures.result_value c.next-a.ensures.result_value in
    rw c.from_residual.ensures (read_dotted-nothing (drop a.start a.s.now) (read_as-is a.s.now c.in_err-high.was h))

pub returns-in_err-low : goal.returns-in_err-low
returns-in_err-low c = let a = c.args in
    let h = joined (parsed 0 (drop a.start a.s.now)) c.next-c.ensures.result_value c.next-b.ensures.result_value c.next-a.ensures.result_value in
    rw c.from_residual-in_err-low.ensures
    (read_dotted-unread (drop a.start a.s.now) c.in_ok-high.high (drop c.in_ok-high.last.at a.s.now) (read_as-is a.s.now c.in_ok-high.was h) c.in_err-low.ensures)

-- the values fit
small : (c : goal.After-behind-1) → (c.in_ok-high.high < 2 ^ 24) × (c.in_ok-low.low ≤ 255)
small c = let s = c.args.s.now in
    let h : value_of c.next-c.result < 2 ^ 24 = omega (arith, c.next-c.ensures.result_bound, c.next-b.ensures.result_bound, c.next-a.ensures.result_bound) in
    (rw c.in_ok-high.was at h, read_number-most 255 (drop c.in_ok-high.last.at s) c.in_ok-low.low (drop c.in_ok-low.behind.at s) c.in_ok-low.ensures)

pub overflow_mul-result : goal.overflow_mul-result
overflow_mul-result c = omega (arith, (small c).0)

pub overflow_add-result : goal.overflow_add-result
overflow_add-result c = omega (arith, (small c).0, (small c).1)

pub returns : goal.returns
returns c = let a = c.args in
    let h = joined (parsed 0 (drop a.start a.s.now)) c.next-c.ensures.result_value c.next-b.ensures.result_value c.next-a.ensures.result_value in
    read_dotted-read (drop a.start a.s.now) c.in_ok-high.high (drop c.in_ok-high.last.at a.s.now) c.in_ok-low.low (drop c.in_ok-low.behind.at a.s.now)
    (read_as-is a.s.now c.in_ok-high.was h) c.in_ok-low.ensures
