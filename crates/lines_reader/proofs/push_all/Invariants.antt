-- `push_all` meets its contract and ends. Each turn pushes a byte, as long as there is a place for it. Assumes nothing.
use mathlib.Core.Path.{◌≡◌}
use lib.ListN.{drop}
use Rattle.lines_reader.specs.Kept.{pushed_all}
use Rattle.lines_reader.proofs.Pushing.{counted}
use Rattle.lines_reader.proofs.push_all.Given as goal

abbrev pub invariant-loop-b : goal.invariant-loop-b
invariant-loop-b l = pushed_all (counted l.r l.at) (drop l.b-index l.part) ≡ pushed_all l.initial.r l.part
