-- `pouring::write` meets its contract: the sets behind move first where the set grows, and last where it shrinks. Assumes nothing.
use mathlib.Core.Path.{refl}
use native.Mathlib.Omega.{arith}
use borrow.Author.Rules.{rules}
use Rattle.pool_state.proofs.Seen.{figures}
use Rattle.change_many.proofs.Poured.{seat-gap, seat-end, grown-pours, shrunk-pours, grown-wrote, shrunk-wrote, shrunk-length}
use Rattle.change_many.proofs.pouring.write.Goals as goal

pub seat_in-at-requires : goal.seat_in-at-requires
seat_in-at-requires c = (_, c.requires.2.surveyed)

pub overflow_add-end : goal.overflow_add-end
overflow_add-end c = omega (arith, seat-end c.requires.2 c.seat_in-at.ensures)

pub stride_of-s-requires : goal.stride_of-s-requires
stride_of-s-requires c = omega (arith, figures c.requires.2.surveyed)

pub shift_behind-requires : goal.shift_behind-requires
shift_behind-requires c = seat-gap c.requires.2 c.seat_in-at.ensures c.stride_of-s.ensures refl

pub pour_seated-requires : goal.pour_seated-requires
pour_seated-requires c = (_, _, grown-pours c.requires.2 c.seat_in-at.ensures c.stride_of-s.ensures c.if-v-n.true c.shift_behind.ensures refl)

pub returns-then-v-n : goal.returns-then-v-n
returns-then-v-n c S l h = let q = c.seat_in-at.ensures in
    let o = c.stride_of-s.ensures in
    let e = c.shift_behind.ensures in
    grown-wrote h q o c.if-v-n.true e (c.pour_seated.ensures _ _ (grown-pours h q o c.if-v-n.true e refl))

pub pour_seated-requires-2 : goal.pour_seated-requires-2
pour_seated-requires-2 c = (_, _, shrunk-pours c.requires.2 c.seat_in-at.ensures refl)

pub shift_behind-requires-2 : goal.shift_behind-requires-2
shift_behind-requires-2 c = let h = c.requires.2 in
    let q = c.seat_in-at.ensures in
    let o = c.stride_of-s.ensures in
    seat-gap h q o (shrunk-length h q (c.pour_seated-2.ensures _ _ (shrunk-pours h q refl)))

pub returns : goal.returns
returns c S l h = let q = c.seat_in-at.ensures in
    let o = c.stride_of-s.ensures in
    shrunk-wrote h q o c.if-v-n.false (c.pour_seated-2.ensures _ _ (shrunk-pours h q refl)) c.shift_behind-2.ensures
