-- `check` meets its contract, test by test. Assumes nothing.
use mathlib.Core.Path.{◌≡◌, sym, ◌∙◌}
use native.Mathlib.Omega.{arith}
use borrow.Author.Tests.{not-true, not-false}
use Rattle.setfile_format.specs.Files.{head_number, is_file_header}
use Rattle.setfile_format.proofs.Reading.{header-few, header-length}
use Rattle.setfile_order.proofs.Opening.{header-tested, header-long, header-small, header-ordered}
use Rattle.setfile_order.proofs.Counting.{check-headless, check-unordered, check-survey}
use Rattle.setfile_order.proofs.check.Goals as goal

pub returns-then-not-is_header : goal.returns-then-not-is_header
returns-then-not-is_header c = let e : c.is_header.result ≡ is_file_header c.args.bytes.now = c.is_header.ensures in
    check-headless _ (sym e ∙ not-true _ c.if-not-is_header.true-raw)

pub number-family-requires : goal.number-family-requires
number-family-requires c = let h = header-tested c.args.bytes.now c.is_header.ensures c.if-not-is_header.false-raw in
    (omega arith, omega (arith, header-long _ h))

pub overflow_cast-family : goal.overflow_cast-family
overflow_cast-family c = let h = header-tested c.args.bytes.now c.is_header.ensures c.if-not-is_header.false-raw in
    let f : c.number-family.result ≡ head_number c.args.bytes.now 0 = c.number-family.ensures in
    omega (arith, f, header-small _ h)

pub number-n-requires : goal.number-n-requires
number-n-requires c = let h = header-tested c.args.bytes.now c.is_header.ensures c.if-not-is_header.false-raw in
    (omega arith, omega (arith, header-long _ h))

pub in_order-requires : goal.in_order-requires
in_order-requires c = let h = header-tested c.args.bytes.now c.is_header.ensures c.if-not-is_header.false-raw in
    let f : c.number-family.result ≡ head_number c.args.bytes.now 0 = c.number-family.ensures in
    let n : c.number-n.result ≡ head_number c.args.bytes.now 1 = c.number-n.ensures in
    (omega (arith, n, header-few _ h), rw (f, n) (omega (arith, header-length _ h)))

pub returns-then-not-in_order : goal.returns-then-not-in_order
returns-then-not-in_order c = let f : c.number-family.result ≡ head_number c.args.bytes.now 0 = c.number-family.ensures in
    let n : c.number-n.result ≡ head_number c.args.bytes.now 1 = c.number-n.ensures in
    check-unordered _ (sym (rw (f, n) at c.in_order.ensures) ∙ not-true _ c.if-not-in_order.true-raw)

pub survey-requires : goal.survey-requires
survey-requires c = let h = header-tested c.args.bytes.now c.is_header.ensures c.if-not-is_header.false-raw in
    let f : c.number-family.result ≡ head_number c.args.bytes.now 0 = c.number-family.ensures in
    let n : c.number-n.result ≡ head_number c.args.bytes.now 1 = c.number-n.ensures in
    rw (f, n) (header-ordered _ (λ i. omega (arith, c.type_inv.bytes i)) h (sym (rw (f, n) at c.in_order.ensures) ∙ not-false _ c.if-not-in_order.false-raw))

pub returns : goal.returns
returns c = let h = header-tested c.args.bytes.now c.is_header.ensures c.if-not-is_header.false-raw in
    let f : c.number-family.result ≡ head_number c.args.bytes.now 0 = c.number-family.ensures in
    let n : c.number-n.result ≡ head_number c.args.bytes.now 1 = c.number-n.ensures in
    (rw (f, n) at c.survey.ensures) ∙ check-survey _ h (sym (rw (f, n) at c.in_order.ensures) ∙ not-false _ c.if-not-in_order.false-raw)
