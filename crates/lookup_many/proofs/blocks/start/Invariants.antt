-- `blocks::start` meets its contract. The loop's invariant: the walks up to a stand at their beginning. Assumes nothing.
use mathlib.Core.Path.{◌≡◌}
use Prim.Native.Nat.{◌-◌, ◌≤◌}
use native.Mathlib.Omega.{arith}
use borrow.Author.Rules.{rules}
use Rattle.trie_lanes.specs.Lanes.{Live}
use Rattle.lookup_many.specs.Lanes.{Started}
use Rattle.lookup_many.proofs.Ending.{started_none, started-next, live-next}
use Rattle.lookup_many.proofs.blocks.start.Given as goal

abbrev pub invariant-loop-a : goal.invariant-loop-a
invariant-loop-a l = (l.a ≤ l.e) × Started l.p l.family l.queries l.i l.a l.lanes × Live l.a l.a l.live
