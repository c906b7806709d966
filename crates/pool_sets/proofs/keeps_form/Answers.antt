-- `keeps_form` meets its contract: the form of the pool, and then the set's tag. Assumes nothing.
use borrow.Author.Rules.{rules}
use Rattle.pool_sets.proofs.Rights.{form-first, form-tagged}
use Rattle.pool_sets.proofs.keeps_form.Goals as goal

pub returns-then-w-eq0 : goal.returns-then-w-eq0
returns-then-w-eq0 c = form-first _ _ c.if-w-eq0.true

pub returns : goal.returns
returns c = form-tagged _ _ c.if-w-eq0.false
