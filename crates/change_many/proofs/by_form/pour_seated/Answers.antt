-- `by_form::pour_seated` meets its contract, in each form by that form's pour. Assumes nothing.
use native.Mathlib.Omega.{arith}
use borrow.Author.Rules.{rules}
use Rattle.change_many.proofs.InForms.{pours-first, pours-second, poured-first, poured-second}
use Rattle.change_many.proofs.by_form.pour_seated.Goals as goal

pub pour-requires : goal.pour-requires
pour-requires c = let (l, t, g) = c.requires in (l, t, pours-first g c.is_first.ensures c.if-is_first.true)

pub returns-then-is_first : goal.returns-then-is_first
returns-then-is_first c l t g = let e = c.is_first.ensures in
    poured-first g e c.if-is_first.true (c.pour.ensures l t (pours-first g e c.if-is_first.true))

pub bounds-pool-3 : goal.bounds-pool-3
bounds-pool-3 c = let (l, t, g) = c.requires in omega (arith, g.long)

pub pour-requires-2 : goal.pour-requires-2
pour-requires-2 c = let (l, t, g) = c.requires in (l, t, pours-second g c.is_first.ensures c.if-is_first.false)

pub returns : goal.returns
returns c l t g = let e = c.is_first.ensures in
    poured-second g e c.if-is_first.false (c.pour-2.ensures l t (pours-second g e c.if-is_first.false))
