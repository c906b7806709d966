-- `reach`: the walk is made, and each turn takes a step of it.
use Rattle.std.proofs.Common.{arith, sym, ◌∙◌, suc, ◌-◌, ◌+◌}
use Rattle.walk.proofs.Reached.{starts, done, steps, stops}
use Rattle.walk.proofs.reaching.reach.Goals as goal
use Rattle.walk.proofs.reaching.reach.Goals.{else-loop-k-test, then-loop-k-test+then-not-next, then-loop-k-test+else-not-next+else-k-left}

pub loop-k-init : goal.loop-k-init
loop-k-init c = let a = c.args in rw c.start-w.ensures (starts a.pool a.set a.left (suc a.left - 0) (omega arith))

pub next-requires : goal.next-requires
next-requires c = c.loop-k.invariant.walking

pub loop-k-preserved : goal.loop-k-preserved
loop-k-preserved c = rw c.next.ensures.1 (steps c.loop-k.invariant (suc c.args.left - (c.loop-k._k + 1)) (omega arith))

pub returns : goal.returns
returns c = elim c.loop-k-test.branch [
  | else-loop-k-test w ↦ rw w.w-is (done c.loop-k.invariant (omega arith))
  | then-loop-k-test+then-not-next w ↦
      rw (w.w-is, w.next.ensures.1) (stops c.loop-k.invariant (c.args.left - c.loop-k._k) (omega arith) (sym w.next.ensures.0 ∙ w.if-not-next.true))
  | then-loop-k-test+else-not-next+else-k-left w ↦ rw (w.w-is, w.next.ensures.1) (done (steps c.loop-k.invariant 0 (omega arith)) (omega arith))
]
