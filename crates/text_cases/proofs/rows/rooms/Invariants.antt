-- `rows::rooms` is safe and ends. Assumes nothing.
use Prim.Native.Nat.{◌-◌, ◌≤◌}
use native.Mathlib.Omega.{arith}
use borrow.Author.Rules.{rules}
use Rattle.text_cases.proofs.rows.rooms.Given as goal

abbrev pub invariant-loop-room : goal.invariant-loop-room
invariant-loop-room l = l.room ≤ 25

abbrev pub decreases-loop-room : goal.decreases-loop-room
decreases-loop-room l = 25 - l.room
