-- `laying::is_formed` meets its contract, by its tests. Assumes nothing.
use mathlib.Core.Path.{sym, ◌∙◌}
use borrow.Author.Tests.{not-true, not-false}
use Rattle.pool.proofs.Needed.{formed-not, formed-first, formed-second}
use Rattle.pool.proofs.laying.is_formed.Goals as goal

pub returns-then-not-is_form : goal.returns-then-not-is_form
returns-then-not-is_form c = formed-not _ _ (sym c.is_form.ensures ∙ not-true _ c.if-not-is_form.true-raw)

pub returns-then-form-eq0 : goal.returns-then-form-eq0
returns-then-form-eq0 c = formed-first _ _ (sym c.is_form.ensures ∙ not-false _ c.if-not-is_form.false-raw) c.if-form-eq0.true

pub returns : goal.returns
returns c = formed-second _ _ (sym c.is_form.ensures ∙ not-false _ c.if-not-is_form.false-raw) c.if-form-eq0.false
