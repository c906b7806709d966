-- `keeps_mark` meets its contract, by the word of the mark and what stands at the set's root. Assumes nothing.
use mathlib.Core.Path.{ap, ◌∙◌}
use native.Mathlib.Omega.{arith}
use borrow.Author.Rules.{rules}
use Rattle.inner_nets.specs.Inner.{is_public}
use Rattle.pool_state.proofs.Kept.{room-first, room-second}
use Rattle.pool_sets.proofs.Rights.{some-trie, of-list, in-first, in-second, mark-off, mark-bad, mark-none, mark_on}
use Rattle.pool_sets.proofs.Pass.{room-family}
use Rattle.pool_sets.proofs.keeps_mark.Goals as goal

pub returns-then-mark-eq0 : goal.returns-then-mark-eq0
returns-then-mark-eq0 c l e = mark-off e c.if-mark-eq0.true

pub returns-then-mark-ne1 : goal.returns-then-mark-ne1
returns-then-mark-ne1 c l e = mark-bad e c.if-mark-eq0.false c.if-mark-ne1.true

pub returns-then-w-s-eq0 : goal.returns-then-w-s-eq0
returns-then-w-s-eq0 c l e = mark-none e c.if-mark-ne1.false c.if-w-s-eq0.true

pub is_clear-requires : goal.is_clear-requires
is_clear-requires c = let (l, e) = c.requires in
    let nz = c.if-w-s-eq0.false in
    record { room = (room-first e.room, e.one); by_index = (_, _, in-first e nz c.if-w-eq0.true, some-trie e nz) }

pub returns-then-w-eq0 : goal.returns-then-w-eq0
returns-then-w-eq0 c l e = let nz = c.if-w-s-eq0.false in
    mark_on e c.if-mark-ne1.false (c.is_clear.ensures _ _ (in-first e nz c.if-w-eq0.true) (some-trie e nz) ∙ ap (is_public _) (of-list e nz))

pub overflow_cast-w : goal.overflow_cast-w
overflow_cast-w c = omega (arith, room-family c.requires.1.room)

pub is_clear-requires-2 : goal.is_clear-requires-2
is_clear-requires-2 c = let (l, e) = c.requires in
    let nz = c.if-w-s-eq0.false in
    record { kept_room = (room-second e.room, e.one); kept_stands = (_, in-second e nz c.if-w-eq0.false, some-trie e nz) }

pub returns : goal.returns
returns c l e = let nz = c.if-w-s-eq0.false in
    mark_on e c.if-mark-ne1.false (c.is_clear-2.ensures _ (in-second e nz c.if-w-eq0.false) (some-trie e nz) ∙ ap (is_public _) (of-list e nz))
