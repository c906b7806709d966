-- `blocks::by_blocks` meets its contract. The loop's invariant: what is written are the answers up to i. Assumes nothing.
use mathlib.Core.Path.{refl}
use Prim.Native.Nat.{◌-◌, ◌/◌}
use lib.ListN.{length}
use native.Mathlib.Omega.{arith}
use borrow.Author.Rules.{rules}
use Rattle.pool_state.proofs.Header.{is_header-header}
use Rattle.lookup_many.specs.Rules.{asked_of}
use Rattle.lookup_many.proofs.Rows.{fill_none, FilledTo, filled-start, filled_next}
use Rattle.lookup_many.proofs.Ending.{seated}
use Rattle.lookup_many.proofs.blocks.by_blocks.Given as goal

abbrev pub invariant-loop-i : goal.invariant-loop-i
invariant-loop-i l = FilledTo (asked_of l.w l.set l.family l.queries) (length l.queries / 3) l.initial.answers l.answers l.i

abbrev pub decreases-loop-i : goal.decreases-loop-i
decreases-loop-i l = length l.queries / 3 - l.i
