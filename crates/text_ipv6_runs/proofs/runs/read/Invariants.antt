-- `runs::read` meets its contract. The loop's invariant: what is left of the run completes it. Assumes nothing.
use mathlib.Core.Path.{◌≡◌}
use Rattle.text_ipv6_runs.specs.Places.{Fits, left_of, turns_of}
use Rattle.text_ipv6_runs.proofs.runs.read.Given as goal

abbrev pub invariant-loop-r : goal.invariant-loop-r
invariant-loop-r l = Fits l.r × (left_of l.s l.r ≡ left_of l.s l.initial.r)

abbrev pub decreases-loop-r : goal.decreases-loop-r
decreases-loop-r l = turns_of l.r
