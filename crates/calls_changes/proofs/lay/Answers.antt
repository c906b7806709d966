-- `changes::lay` meets its contract: the two rows are the numbers of the tail. Assumes nothing.
-- a byte of shares fits the row
use Prim.Native.Nat.{◌+◌, ◌*◌, ◌%◌, ◌≤◌}
use lib.ListN.{replicate}
use Rattle.calls_bytes.proofs.Rows.{take-numbers, count-numbers}
use Rattle.calls_changes.specs.Changes.{layout_of}
use Rattle.calls_changes.proofs.Laying.{laid-is}
use borrow.Author.Rules.{rules}
use native.Mathlib.Omega.{arith}
use Rattle.calls_changes.proofs.lay.Goals as goal

small : (c : goal.After-shares-3-1) → c.args.c.net.len ≤ 255
small c = omega arith

small-of_answer : (c : goal.After-of_answer) → c.args.c.net.len ≤ 255
small-of_answer c = omega arith

pub slice_bounds-layout-end : goal.slice_bounds-layout-end
unfolding layout_of
slice_bounds-layout-end c = let a = c.args in count-numbers (replicate 255 0) a.s.now 35 a.c.net.len c.store_words.ensures (small c)

pub slice_bounds-layout-end-2 : goal.slice_bounds-layout-end-2
unfolding layout_of
slice_bounds-layout-end-2 c = let a = c.args in count-numbers (replicate 255 0) a.s.now (35 + 4 * a.c.net.len) (a.c.c % 256) c.store_words-2.ensures (omega arith)

pub returns : goal.returns
unfolding layout_of
returns c = let a = c.args in
    laid-is
    (rw (
      take-numbers (replicate 255 0) a.s.now 35 a.c.net.len c.store_words.ensures (small-of_answer c),
      take-numbers (replicate 255 0) a.s.now (35 + 4 * a.c.net.len) (a.c.c % 256) c.store_words-2.ensures (omega arith),
    ) at c.layout.ensures)
    c.of_answer.ensures
