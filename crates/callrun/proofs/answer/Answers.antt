-- `answer` is safe and ends: what it lends and what it writes lie within its arrays, whose zeros are too many to be counted one by one. Assumes nothing.
use mathlib.Core.List.{List}
use mathlib.Core.Path.{◌≡◌, sym}
use Prim.Native.Nat.{ℕ, ◌≤◌}
use native.Mathlib.Omega.{arith}
use lib.ListN.{length, take, length-take}
use Rattle.callrun.proofs.answer.Goals as goal

-- as many as are taken, where there are so many
taken : (n m : ℕ) (xs : List ℕ) → n ≤ m → length xs ≡ m → n ≡ length (take n xs)
taken n m xs h e = simp length-take (omega arith)

pub slice_bounds-run-end : goal.slice_bounds-run-end
slice_bounds-run-end c d = taken _ 65536 _ d.requires (sym d.words_of-pool.ensures)

pub slice_bounds-write_all-end-2 : goal.slice_bounds-write_all-end-2
slice_bounds-write_all-end-2 c d = taken _ _ _ d.run-ended.ensures.done_in_bounds.1 d.run-ended.auto.out
