-- `first::end` meets its contract. The loop's invariant: what was passed, with what is left, is the first line. Assumes nothing.
use mathlib.Core.Path.{◌≡◌}
use native.Mathlib.Omega.{arith}
use lib.ListN.{length}
use Rattle.text_either.proofs.Firsts.{passed_start, passed-step, passed-feed, passed-end}
use Rattle.text_either.proofs.first.end.Goals as goal

pub loop-at-init : goal.loop-at-init
loop-at-init c = passed_start c.args.input.now

pub returns-then-input-at-eq10 : goal.returns-then-input-at-eq10
returns-then-input-at-eq10 c = passed-feed c.args.input.now c.loop-at.at c.loop-at-test.true c.if-input-at-eq10.true c.loop-at.invariant

pub loop-at-preserved : goal.loop-at-preserved
loop-at-preserved c = passed-step c.args.input.now c.loop-at.at c.loop-at-test.true c.if-input-at-eq10.false c.loop-at.invariant

pub returns : goal.returns
returns c = let s = c.args.input.now in
    let e : c.loop-at.at ≡ length s = omega arith in
    passed-end s (length s) (omega arith) (rw e at c.loop-at.invariant)
