-- `nodes_of` meets its contract. The loop's invariant: the sets behind the one that is asked for have had no node. Assumes nothing.
use Prim.Native.Nat.{◌-◌}
use native.Mathlib.Omega.{arith}
use mathlib.Core.Path.{◌≡◌}
use borrow.Author.Rules.{rules}
use Rattle.pool_state.specs.States.{State}
use Rattle.pool_state.specs.Decode.{record_at, sound, decode}
use Rattle.pool_state.proofs.Seen.{seen, Figures, figures}
use Rattle.combine_sources.proofs.Extents.{Turn, nodes-none, turn-first, turn-next, turn-found, turn_end}
use Rattle.combine_sources.proofs.nodes_of.Given as goal

abbrev pub invariant-loop-s : goal.invariant-loop-s
invariant-loop-s l = (S : State) → decode l.pool ≡ sound S → Turn S l.set l.s
