-- `survey` meets its contract. The loop's invariant: h is head number k, and the nodes of the heads so far are counted. Assumes nothing.
use native.Mathlib.Omega.{arith}
use Rattle.setfile_order.proofs.First.{behind-head, stepped}
use Rattle.setfile_order.proofs.Counting.{survey-none, survey-first, survey-end, survey-inside, survey-deep, survey-few, survey-next}
use Rattle.setfile_order.proofs.survey.Goals as goal

pub returns-then-n-eq0 : goal.returns-then-n-eq0
returns-then-n-eq0 c = survey-none _ _ _ c.if-n-eq0.true

pub begin-h-requires : goal.begin-h-requires
begin-h-requires c = c.requires

pub loop-k-init : goal.loop-k-init
loop-k-init c = (survey-first (omega (arith, c.if-n-eq0.false)) c.begin-h.ensures, c.requires.entries.few)

pub move_on-requires : goal.move_on-requires
move_on-requires c = let s = c.loop-k.invariant.0 in (s.q, s.ms, s.flow)

pub head-h-requires : goal.head-h-requires
head-h-requires c = let s = c.loop-k.invariant.0 in
    (_, s.q, s.ms, behind-head s.flow s.net (c.move_on.ensures s.q s.ms s.flow))

pub returns-then-h-whole : goal.returns-then-h-whole
returns-then-h-whole c = survey-inside c.loop-k.invariant.0 c.loop-k-test.true (stepped c.move_on.ensures c.head-h.ensures) c.if-h-whole.true

pub overflow_sub-nodes : goal.overflow_sub-nodes
overflow_sub-nodes c = survey-deep c.loop-k.invariant.0 c.loop-k-test.true (stepped c.move_on.ensures c.head-h.ensures)

pub overflow_cast-nodes-in-loop-k-2 : goal.overflow_cast-nodes-in-loop-k-2
overflow_cast-nodes-in-loop-k-2 c = let o = c.loop-k.invariant in
    omega (arith, survey-few o.0 c.loop-k-test.true (stepped c.move_on.ensures c.head-h.ensures) o.1)

pub overflow_add-nodes-in-loop-k-2 : goal.overflow_add-nodes-in-loop-k-2
overflow_add-nodes-in-loop-k-2 c = let o = c.loop-k.invariant in
    omega (arith, survey-few o.0 c.loop-k-test.true (stepped c.move_on.ensures c.head-h.ensures) o.1)

pub loop-k-preserved : goal.loop-k-preserved
loop-k-preserved c = let o = c.loop-k.invariant in
    (survey-next o.0 c.loop-k-test.true (stepped c.move_on.ensures c.head-h.ensures) c.if-h-whole.false, o.1)

pub returns : goal.returns
returns c = survey-end c.loop-k.invariant.0 c.loop-k-test.false
