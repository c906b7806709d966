-- `strings::extends` meets its contract, by its tests. Assumes nothing.
use mathlib.Core.Path.{sym, ◌∙◌}
use borrow.Author.Tests.{not-true, not-false}
use Rattle.kept_reading.proofs.ByWords.{extends-short, extends-off, extends-bit}
use Rattle.kept_reading.proofs.strings.extends.Goals as goal

pub returns-then-q-p : goal.returns-then-q-p
returns-then-q-p c = extends-short c.requires _ c.if-q-p.true

pub returns-then-not-leads : goal.returns-then-not-leads
returns-then-not-leads c = extends-off c.requires _ c.if-q-p.false (sym c.leads.ensures ∙ not-true _ c.if-not-leads.true-raw)

pub returns : goal.returns
returns c = extends-bit c.requires _ _ c.if-q-p.false (sym c.leads.ensures
    ∙ not-false _ c.if-not-leads.false-raw) c.bit_at.ensures
