-- `push_all` meets its contract and ends. Each turn pushes a byte, as long as there is a place for it. Assumes nothing.
use mathlib.Core.Path.{refl, ◌∙◌}
use native.Mathlib.Omega.{arith}
use lib.ListN.{drop}
use Rattle.lines_reader.proofs.Pushing.{pushed-one, pushed_none, pushed-full}
use Rattle.lines_reader.proofs.push_all.Goals as goal

pub loop-b-init : goal.loop-b-init
loop-b-init c = refl

pub loop-b-preserved : goal.loop-b-preserved
loop-b-preserved c = let x = c.loop-b in
    pushed-one x.r x.at c.args.part.now (omega arith) (omega arith) ∙ x.invariant

pub returns-then-at-ge-KEPT : goal.returns-then-at-ge-KEPT
returns-then-at-ge-KEPT c = let x = c.loop-b in
    pushed-full x.r x.at (drop x.b-index c.args.part.now) c.if-at-ge-KEPT.true ∙ x.invariant

pub returns-after-loop-b : goal.returns-after-loop-b
returns-after-loop-b c = let x = c.loop-b in
    pushed_none x.r x.at c.args.part.now x.b-index (omega arith) ∙ x.invariant
