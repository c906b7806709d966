-- `filling::fill` meets its contract. The loop's invariant: what is written is the beginning of what is left. Assumes nothing.
use mathlib.Core.List.{List}
use mathlib.Core.Path.{◌≡◌, refl, sym, ◌∙◌}
use Prim.Native.Nat.{ℕ, ◌+◌, ◌-◌, ◌≤◌}
use native.Mathlib.Omega.{arith}
use borrow.Author.Rules.{rules}
use lib.ListN.{length}
use Rattle.nets.specs.Bits.{Bits}
use Rattle.salvage_lists.specs.Salvaging.{in_range_in}
use Rattle.salvage_passes.specs.Parts.{Filling}
use Rattle.salvage_passes.proofs.filling.fill.Given as goal

abbrev pub invariant-loop-done : goal.invariant-loop-done
invariant-loop-done l = (length l.out ≡ length l.initial.out) × ((v : List ℕ) (T : List Bits) → Filling l.family (in_range_in l.family l.bytes 0 l.n) T l.m v l.initial.out 0 → Filling l.family (in_range_in l.family l.bytes 0 l.n) T l.m v l.out l.done)

abbrev pub decreases-loop-done : goal.decreases-loop-done
decreases-loop-done l = l.m - l.done
