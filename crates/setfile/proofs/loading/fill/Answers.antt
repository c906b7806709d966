-- `loading::fill` meets its contract, in each form by that form's trie. Assumes nothing.
use native.Mathlib.Omega.{arith}
use borrow.Author.Rules.{rules}
use Rattle.setfile.proofs.Filling.{fill-first, fill-second, filled-first, filled-second}
use Rattle.setfile.proofs.loading.fill.Goals as goal

pub build-requires : goal.build-requires
build-requires c = let (l, g) = c.requires in (l, fill-first g c.is_first.ensures c.if-is_first.true)

pub returns-then-is_first : goal.returns-then-is_first
returns-then-is_first c l g = let e = c.is_first.ensures in
    filled-first g e c.if-is_first.true (c.build.ensures l (fill-first g e c.if-is_first.true))

pub overflow_add-i : goal.overflow_add-i
overflow_add-i c = let (l, g) = c.requires in omega (arith, (fill-second g c.is_first.ensures c.if-is_first.false).room.few)

pub build-requires-2 : goal.build-requires-2
build-requires-2 c = let (l, g) = c.requires in (l, fill-second g c.is_first.ensures c.if-is_first.false)

pub returns : goal.returns
returns c l g = let e = c.is_first.ensures in
    filled-second g e c.if-is_first.false (c.build-2.ensures l (fill-second g e c.if-is_first.false)).1
