-- `joining::next_join` meets its contract. The loop's invariant: the test names no node before node n. Assumes nothing.
use mathlib.Core.Bool.{false}
use Prim.Native.Nat.{ℕ, ◌+◌, ◌≤◌, ◌<◌}
use Rattle.trie_emit.proofs.joining.next_join.Given as goal

abbrev pub invariant-loop-n : goal.invariant-loop-n
invariant-loop-n g l = (j : ℕ) → l.k ≤ j → j < l.n → j + 2 < l.e → goal.F-post g l.is_join j false
