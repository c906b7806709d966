-- `lanes::next_in_lane` meets its contract. The loop's invariant: none of the nodes that were read is a member of that length. Assumes nothing.
use native.Mathlib.Omega.{arith}
use mathlib.Core.Path.{◌≡◌, sym, ◌∙◌}
use Prim.Native.Nat.{◌-◌}
use Rattle.kept_next.proofs.Behind.{lane-start, lane-on, lane-found}
use Rattle.kept_next.proofs.lanes.next_in_lane.Goals as goal

pub loop-j-init : goal.loop-j-init
loop-j-init c = lane-start _ _ _ _ _

pub overflow_cast-j : goal.overflow_cast-j
overflow_cast-j c = omega (arith, c.loop-j.invariant.to, c.loop-j-test.true, c.requires)

pub head-requires : goal.head-requires
head-requires c = record { kept_room = c.requires.kept_room; le_i = omega (arith, c.loop-j.invariant.to, c.loop-j-test.true, c.requires) }

pub returns-then-head-len : goal.returns-then-head-len
returns-then-head-len c r e = let i : c.loop-j.j - 1 ≡ r = cc e in
    rw i at (lane-found c.loop-j.invariant c.loop-j-test.true (sym c.head.ensures ∙ c.if-head-len.true))

pub loop-j-preserved : goal.loop-j-preserved
loop-j-preserved c = lane-on c.loop-j.invariant c.loop-j-test.true (λ e. c.if-head-len.false (c.head.ensures ∙ e))

pub returns : goal.returns
returns c r e = absurd (cc e)
