-- `laying::shares_fit` meets its contract. The loop's invariant: the answer is that for the shares to come and the nodes that are left. Assumes nothing.
use Rattle.pool_state.proofs.Setups.{shares_fit-no-share, shares_fit-no-limit, shares_fit-start, shares_fit-over, shares_fit-past, shares_fit-turn, shares_fit-end}
use Rattle.pool.proofs.laying.shares_fit.Goals as goal

pub returns-then-shares-n : goal.returns-then-shares-n
returns-then-shares-n c = shares_fit-no-share _ _ _ _ c.if-shares-n.true

pub returns-then-limits-n : goal.returns-then-limits-n
returns-then-limits-n c = shares_fit-no-limit _ _ _ _ c.if-shares-n.false c.if-limits-n.true

pub loop-s-init : goal.loop-s-init
loop-s-init c = shares_fit-start _ _ _ _ c.if-shares-n.false c.if-limits-n.false

pub returns-then-limits-s : goal.returns-then-limits-s
returns-then-limits-s c = shares_fit-over c.loop-s.invariant c.loop-s-test.true c.if-limits-s.true

pub returns-then-left-share : goal.returns-then-left-share
returns-then-left-share c = shares_fit-past c.loop-s.invariant c.loop-s-test.true c.if-left-share.true

pub loop-s-preserved : goal.loop-s-preserved
loop-s-preserved c = shares_fit-turn c.loop-s.invariant c.loop-s-test.true c.if-limits-s.false c.if-left-share.false

pub returns : goal.returns
returns c = shares_fit-end c.loop-s.invariant c.loop-s-test.false
