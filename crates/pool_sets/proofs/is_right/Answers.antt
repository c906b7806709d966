-- `is_right` meets its contract: the limit, and then the mark. Assumes nothing.
use native.Mathlib.Omega.{arith}
use borrow.Author.Rules.{rules}
use Rattle.pool_sets.proofs.Rights.{right-formless, right-over, right-marked}
use Rattle.pool_sets.proofs.is_right.Goals as goal

pub returns-then-not-keeps_form : goal.returns-then-not-keeps_form
returns-then-not-keeps_form c l e z = right-formless _ _ l c.keeps_form.ensures c.if-not-keeps_form.true-raw

pub returns-then-not-in_limit : goal.returns-then-not-in_limit
returns-then-not-in_limit c l e z = right-over _ _ l c.keeps_form.ensures c.if-not-keeps_form.false-raw (omega arith) c.in_limit.ensures c.if-not-in_limit.true-raw

pub returns : goal.returns
returns c l e z = right-marked _ _ l c.keeps_form.ensures c.if-not-keeps_form.false-raw (omega arith) c.in_limit.ensures c.if-not-in_limit.false-raw (c.keeps_mark.ensures l e)
