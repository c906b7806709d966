-- `pass` meets its contract and ends. Each turn passes what is left of a line, and what is left of the piece completes what is passed. Assumes nothing.
use Rattle.std.proofs.Common.{◌≡◌, ◌+◌, ◌-◌, ◌<◌, ◌≤◌, length, drop, refl, ◌∙◌, arith, length-drop, rules}
use Rattle.pool_state.specs.Steps.{Surveyed}
use Rattle.lines.specs.Reading.{passed}
use Rattle.lines.proofs.Steps.{passed-refused}
use Rattle.lines.proofs.Passing.{Line, line_at, passed-last, passed-next}
use Rattle.lines.proofs.pass.Given as goal

abbrev pub invariant-loop-g : goal.invariant-loop-g
invariant-loop-g l = (l.i ≤ length l.piece) × (passed l.pool l.g.reader (drop l.i l.piece) ≡ passed l.initial.pool l.initial.g.reader l.piece) × (length l.pool ≡ length l.initial.pool) × Surveyed l.pool 0 l.g.found

abbrev pub decreases-loop-g : goal.decreases-loop-g
decreases-loop-g l = length l.piece - l.i
