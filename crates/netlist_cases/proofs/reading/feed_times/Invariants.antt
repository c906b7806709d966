-- `reading::feed_times` is safe and ends. Assumes nothing.
use Prim.Native.Nat.{◌-◌, ◌≤◌, ◌<◌}
use mathlib.Core.Path.{◌≡◌}
use borrow.Author.Rules.{rules}
use lib.ListN.{length}
use Rattle.netlist_cases.proofs.reading.feed_times.Given as goal

abbrev pub invariant-loop : goal.invariant-loop
invariant-loop l = (l.counter ≤ l.times) × (0 < l.size) × (length l.pool ≡ length l.initial.pool)

abbrev pub decreases-loop : goal.decreases-loop
decreases-loop l = l.times - l.counter
