-- `runs::read` meets its contract. The loop's invariant: what is left of the run completes it. Assumes nothing.
use mathlib.Core.Path.{refl, sym, ◌∙◌}
use Rattle.text_ipv6_runs.proofs.Turns.{left-start, left_end}
use Rattle.text_ipv6_runs.proofs.runs.read.Goals as goal

pub loop-r-init : goal.loop-r-init
loop-r-init c = (record { places = c.requires.0; within = c.requires.1 }, refl)

pub step-r-requires : goal.step-r-requires
step-r-requires c = (c.loop-r.invariant.0, sym c.is_open.ensures ∙ c.loop-r-test.true)

pub loop-r-smaller : goal.loop-r-smaller
loop-r-smaller c = c.step-r.ensures.less

pub loop-r-preserved : goal.loop-r-preserved
loop-r-preserved c = (c.step-r.ensures.fits, c.step-r.ensures.left ∙ c.loop-r.invariant.1)

pub returns : goal.returns
returns c = let a = c.args in
    (c.loop-r.invariant.0, sym (left_end a.s.now c.loop-r.r (sym c.is_open.ensures ∙ c.loop-r-test.false)) ∙ c.loop-r.invariant.1 ∙ left-start a.s.now a.groups a.count a.at)
