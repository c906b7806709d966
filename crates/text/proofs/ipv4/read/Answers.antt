-- `ipv4::read` meets its contract. Assumes nothing.
use native.Mathlib.Omega.{arith}
use lib.ListN.{drop}
use Rattle.text_decimal.proofs.Numbers.{read_number-most}
use Rattle.nets.proofs.Propagated.{propagated}
use Rattle.text.proofs.Reading.{read_as-ok, read_as-err, read_line-nothing, read_line-unread, read_line-more, read_line-whole}
use Rattle.text.proofs.ipv4.read.Goals as goal

pub returns-in_err-address : goal.returns-in_err-address
returns-in_err-address c = let s = c.args.line.now in
    let h = read_as-err s c.quad.result c.ok_or.ensures.value c.in_err-address.was c.quad.ensures in
    rw (propagated c.from_residual.ensures, h.0) (read_line-nothing s h.1)

pub returns-in_err-len : goal.returns-in_err-len
returns-in_err-len c = let s = c.args.line.now in
    let h = read_as-err s c.number.result c.ok_or-2.ensures.value c.in_err-len.was c.number.ensures in
    let a = read_as-ok s c.quad.result c.ok_or.ensures.value c.in_ok-address.was c.quad.ensures in
    rw (propagated c.from_residual-in_err-len.ensures, h.0) (read_line-unread s c.in_ok-address.address (drop c.in_ok-address.next.at s) a h.1)

pub returns-then-end-line : goal.returns-then-end-line
returns-then-end-line c = let s = c.args.line.now in
    let a = read_as-ok s c.quad.result c.ok_or.ensures.value c.in_ok-address.was c.quad.ensures in
    let n = read_as-ok s c.number.result c.ok_or-2.ensures.value c.in_ok-len.was c.number.ensures in
    read_line-more s c.in_ok-address.address (drop c.in_ok-address.next.at s) c.in_ok-len.len c.in_ok-len.end.at a n c.if-end-line.true

pub overflow_cast-result-2 : goal.overflow_cast-result-2
overflow_cast-result-2 c = let s = c.args.line.now in
    let n = read_as-ok s c.number.result c.ok_or-2.ensures.value c.in_ok-len.was c.number.ensures in
    omega (arith, read_number-most 32 (drop c.in_ok-address.next.at s) c.in_ok-len.len (drop c.in_ok-len.end.at s) n)

pub returns : goal.returns
returns c = let s = c.args.line.now in
    let a = read_as-ok s c.quad.result c.ok_or.ensures.value c.in_ok-address.was c.quad.ensures in
    let n = read_as-ok s c.number.result c.ok_or-2.ensures.value c.in_ok-len.was c.number.ensures in
    read_line-whole s c.in_ok-address.address (drop c.in_ok-address.next.at s) c.in_ok-len.len c.in_ok-len.end.at a n c.if-end-line.false
