-- `rules::accept` meets its contract: its tests are those of `refusal_of`. Assumes nothing.
use mathlib.Core.Path.{sym, ◌∙◌}
use borrow.Author.Tests.{not-true, not-false}
use Rattle.nets.specs.Networks.{refusal_of}
use Rattle.nets.proofs.rules.accept.Goals as goal

pub returns-then-not-is_family : goal.returns-then-not-is_family
unfolding refusal_of
returns-then-not-is_family c = rw (sym c.is_family.ensures ∙ not-true _ c.if-not-is_family.true-raw)

pub returns-then-not-in_range : goal.returns-then-not-in_range
unfolding refusal_of
returns-then-not-in_range c = rw (sym c.is_family.ensures ∙ not-false _ c.if-not-is_family.false-raw, sym c.in_range.ensures ∙ not-true _ c.if-not-in_range.true-raw)

pub returns : goal.returns
unfolding refusal_of
returns c = rw (sym c.is_family.ensures ∙ not-false _ c.if-not-is_family.false-raw, sym c.in_range.ensures ∙ not-false _ c.if-not-in_range.false-raw)
