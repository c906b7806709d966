-- `survey` meets its contract: the pass over the sets, and then that over the tags and indexes. Assumes nothing.
use mathlib.Core.Path.{sym, ◌∙◌}
use borrow.Author.Rules.{rules}
use borrow.Author.Tests.{not-true, not-false}
use Rattle.pool_check.proofs.Indexes.{headless, whole-off, whole-some, whole-wrong, whole-right}
use Rattle.pool_check.proofs.survey.Goals as goal

pub returns-then-not-is_header : goal.returns-then-not-is_header
returns-then-not-is_header c = headless _ _ (sym c.is_header.ensures ∙ not-true _ c.if-not-is_header.true-raw)

pub survey_sets-seen-requires : goal.survey_sets-seen-requires
survey_sets-seen-requires c = sym c.is_header.ensures ∙ not-false _ c.if-not-is_header.false-raw

pub returns-in_default : goal.returns-in_default
returns-in_default c = whole-off _ _ (sym c.in_default.is ∙ c.survey_sets-seen.ensures)

pub are_indexes-requires : goal.are_indexes-requires
are_indexes-requires c = whole-some _ _ _ (sym c.in-Some.is ∙ c.survey_sets-seen.ensures)

pub returns-then-not-are_indexes : goal.returns-then-not-are_indexes
returns-then-not-are_indexes c = whole-wrong _ _ _ (sym c.in-Some.is ∙ c.survey_sets-seen.ensures) c.are_indexes.ensures c.if-not-are_indexes.true-raw

pub returns : goal.returns
returns c = whole-right _ _ _ (sym c.in-Some.is ∙ c.survey_sets-seen.ensures) c.are_indexes.ensures c.if-not-are_indexes.false-raw
