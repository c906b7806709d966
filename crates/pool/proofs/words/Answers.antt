-- `words` meets its contract: the sum fits, since the counts are in their ranges. Assumes nothing.
use mathlib.Core.Path.{sym, ◌∙◌}
use native.Mathlib.Omega.{arith}
use borrow.Author.Tests.{not-true, not-false}
use Rattle.pool_state.proofs.Claims.{is_size-is}
use Rattle.pool.proofs.Needed.{words_size, words-many, words_are}
use Rattle.pool.proofs.words.Goals as goal

pub returns-then-not-is_size : goal.returns-then-not-is_size
returns-then-not-is_size c = words_size _ _ _ (sym c.is_size.ensures ∙ not-true _ c.if-not-is_size.true-raw)

pub returns-then-sets-indexed : goal.returns-then-sets-indexed
returns-then-sets-indexed c = words-many _ _ _ (sym c.is_size.ensures ∙ not-false _ c.if-not-is_size.false-raw) c.if-sets-indexed.true

pub overflow_cast-result : goal.overflow_cast-result
overflow_cast-result c = let a = c.args in
    omega (arith, c.least_words.ensures, c.if-sets-indexed.false, is_size-is a.sets a.nodes (sym c.is_size.ensures ∙ not-false _ c.if-not-is_size.false-raw))

pub returns : goal.returns
returns c = words_are _ _ _ (sym c.is_size.ensures ∙ not-false _ c.if-not-is_size.false-raw) c.if-sets-indexed.false c.least_words.ensures
