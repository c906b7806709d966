-- `by_form::poured_nodes` meets its contract, in each form by that form's count. Assumes nothing.
use native.Mathlib.Omega.{arith}
use borrow.Author.Rules.{rules}
use Rattle.change_many.proofs.InForms.{sources-first, sources-second, counts-first, counts-second}
use Rattle.change_many.proofs.by_form.poured_nodes.Goals as goal

pub poured_size-requires : goal.poured_size-requires
poured_size-requires c = let (l, t, g) = c.requires in (l, t, sources-first g c.is_first.ensures c.if-is_first.true)

pub returns-then-is_first : goal.returns-then-is_first
returns-then-is_first c l t g = let e = c.is_first.ensures in
    counts-first g e c.args.into c.if-is_first.true (c.poured_size.ensures l t (sources-first g e c.if-is_first.true))

pub bounds-pool-3 : goal.bounds-pool-3
bounds-pool-3 c = let (l, t, g) = c.requires in omega (arith, g.long)

pub poured_size-requires-2 : goal.poured_size-requires-2
poured_size-requires-2 c = let (l, t, g) = c.requires in (l, t, sources-second g c.is_first.ensures c.if-is_first.false)

pub returns : goal.returns
returns c l t g = let e = c.is_first.ensures in
    counts-second g e c.args.into c.if-is_first.false (c.poured_size-2.ensures l t (sources-second g e c.if-is_first.false))
