-- `is_header` meets its contract: its tests are those of `is_header`. Assumes nothing.
use mathlib.Core.Path.{sym, ◌∙◌}
use borrow.Author.Tests.{not-true, not-false}
use Rattle.pool_state.proofs.Header.{is_header-short, is_header-mark, is_header-family, is_header-size, is_header-indexed, is_header-long, is_header-form}
use Rattle.pool_header.proofs.is_header.Goals as goal

pub returns-then-w-lt-HEAD : goal.returns-then-w-lt-HEAD
returns-then-w-lt-HEAD c = is_header-short _ c.if-w-lt-HEAD.true

pub returns-then-w-ne-MARK : goal.returns-then-w-ne-MARK
returns-then-w-ne-MARK c = is_header-mark _ c.if-w-ne-MARK.true

pub returns-then-not-is_family : goal.returns-then-not-is_family
returns-then-not-is_family c = is_header-family _ (sym c.is_family.ensures ∙ not-true _ c.if-not-is_family.true-raw)

pub returns-then-not-is_form : goal.returns-then-not-is_form
returns-then-not-is_form c = is_header-form _ (sym c.is_form.ensures ∙ not-true _ c.if-not-is_form.true-raw)

pub returns-then-not-is_size : goal.returns-then-not-is_size
returns-then-not-is_size c = is_header-size _ (sym c.is_size.ensures ∙ not-true _ c.if-not-is_size.true-raw)

pub returns-then-sets-indexed : goal.returns-then-sets-indexed
returns-then-sets-indexed c = is_header-indexed _ c.if-sets-indexed.true

pub returns : goal.returns
returns c = is_header-long _ c.if-w-ne-MARK.false (sym c.is_family.ensures ∙ not-false _ c.if-not-is_family.false-raw) (sym c.is_form.ensures ∙ not-false _ c.if-not-is_form.false-raw)
    (sym c.is_size.ensures ∙ not-false _ c.if-not-is_size.false-raw) c.if-sets-indexed.false c.least_words.ensures
