-- `walks::none_of` meets its contract. The loop's invariant: an inner network that meets the test is among those from number net-index on. Assumes nothing.
use mathlib.Core.Bool.{Bool}
use Rattle.nets.specs.Bits.{Bits}
use Rattle.inner_nets.specs.Parts.{Tests}
use Rattle.inner_nets.proofs.Numbered.{Left}
use Rattle.inner_nets.proofs.walks.none_of.Given as goal

abbrev pub invariant-loop-net : goal.invariant-loop-net
invariant-loop-net g l = (t : Bits → Bool) → Tests (goal.F-post g l.meets) t → Left l.family t l.net-index
