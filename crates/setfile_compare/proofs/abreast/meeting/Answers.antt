-- `abreast::meeting` meets its contract, test by test. Assumes nothing.
use mathlib.Core.Path.{sym, ◌∙◌}
use native.Mathlib.Nat.{le_of_lt}
use native.Mathlib.Omega.{arith}
use borrow.Author.Rules.{rules}
use borrow.Author.Tests.{ltb-true, ltb-false}
use Rattle.setfile_compare.proofs.Going.{meets-over, meets-alone, meets-sooner, meets-alike}
use Rattle.setfile_compare.proofs.abreast.meeting.Goals as goal

pub returns-then-b-eq0 : goal.returns-then-b-eq0
returns-then-b-eq0 c f x ms y ns o v = meets-over o v c.if-a-eq0.true c.if-b-eq0.true

pub returns-then-a-eq0 : goal.returns-then-a-eq0
returns-then-a-eq0 c f x ms y ns o v = meets-alone v o c.if-b-eq0.false c.if-a-eq0.true

pub returns-then-b-eq0-2 : goal.returns-then-b-eq0-2
returns-then-b-eq0-2 c f x ms y ns o v = meets-alone o v c.if-a-eq0.false c.if-b-eq0-2.true

pub returns-then-less : goal.returns-then-less
returns-then-less c f x ms y ns o v = meets-sooner o v c.if-a-eq0.false (sym c.less.ensures ∙ c.if-less.true)

pub returns-then-less-2 : goal.returns-then-less-2
returns-then-less-2 c f x ms y ns o v = meets-sooner v o c.if-b-eq0-2.false (sym c.less-2.ensures ∙ c.if-less-2.true)

pub returns-then-less-3 : goal.returns-then-less-3
returns-then-less-3 c f x ms y ns o v = meets-alike o v _ c.if-a-eq0.false c.if-b-eq0-2.false
    (sym c.less.ensures ∙ c.if-less.false) (sym c.less-2.ensures ∙ c.if-less-2.false)
    (omega arith) (le_of_lt (ltb-true _ _ (sym c.less-3.ensures ∙ c.if-less-3.true))) (λ n h k. h)

pub returns : goal.returns
returns c f x ms y ns o v = meets-alike o v _ c.if-a-eq0.false c.if-b-eq0-2.false
    (sym c.less.ensures ∙ c.if-less.false) (sym c.less-2.ensures ∙ c.if-less-2.false)
    (ltb-false _ _ (sym c.less-3.ensures ∙ c.if-less-3.false)) (omega arith) (λ n h k. k)
