-- `reading::is_header` meets its contract: it tests one rule after the other. Assumes nothing.
use mathlib.Core.Path.{sym, ◌∙◌}
use native.Mathlib.Omega.{arith}
use borrow.Author.Tests.{not-true, not-false}
use Rattle.nets.proofs.Numbers.{family-few}
use Rattle.setfile_entries.proofs.Headers.{header-short, header-family, header-many, header-offset, header-length, header_is}
use Rattle.setfile_entries.proofs.reading.is_header.Goals as goal

pub returns-then-bytes-lt-HEADER : goal.returns-then-bytes-lt-HEADER
returns-then-bytes-lt-HEADER c = header-short _ (omega arith)

pub returns-then-not-is_family : goal.returns-then-not-is_family
returns-then-not-is_family c = header-family _ (rw (← c.number-family.ensures) (sym c.is_family.ensures ∙ not-true _ c.if-not-is_family.true-raw))

pub returns-then-n-gt-MOST_ENTRIES : goal.returns-then-n-gt-MOST_ENTRIES
returns-then-n-gt-MOST_ENTRIES c = header-many _ (rw (← c.number-n.ensures) (omega arith))

pub returns-then-number-ne-HEADER : goal.returns-then-number-ne-HEADER
returns-then-number-ne-HEADER c = header-offset _ (λ e. absurd (omega (arith, c.number.ensures)))

pub returns-then-number-bytes : goal.returns-then-number-bytes
returns-then-number-bytes c = header-length _ (rw (← c.number-2.ensures) c.if-number-bytes.true)

pub overflow_cast-family : goal.overflow_cast-family
overflow_cast-family c = omega (arith, family-few c.number-family.result (sym c.is_family.ensures ∙ not-false _ c.if-not-is_family.false-raw))

pub returns : goal.returns
returns c = let family = c.number-family.ensures in
    rw (c.file_bytes.ensures, family, c.number-n.ensures)
    (header_is _ (rw (← family) (sym c.is_family.ensures ∙ not-false _ c.if-not-is_family.false-raw))
    (rw (← c.number-n.ensures) (omega arith)) (omega (arith, c.number.ensures)) (sym c.number-2.ensures ∙ c.if-number-bytes.false))
