-- `rows::write_ranges` meets its contract. The loop's invariant: what is still to come completes the ranges. Assumes nothing.
use mathlib.Core.Path.{sym}
use native.Mathlib.Omega.{arith}
use lib.Dec.{ltb}
use Rattle.trie_paths.proofs.Stacks.{bit_le, ahead-place}
use Rattle.trie_ranges.proofs.Turns.{ranging-start, reads-leaf, reads-inner, ranging-end, leaf-path, leaf-within, leaf-height, leaf-asks, leaf-taken, inner-path, inner-asks, inner-passed}
use Rattle.trie_ranges.proofs.rows.write_ranges.Goals as goal
use Rattle.trie_ranges.proofs.rows.write_ranges.Goals.{then-y-eq0, else-y-eq0}

pub loop-k-init : goal.loop-k-init
loop-k-init c t h = (_, ranging-start h c.whole-x.ensures)

pub word-y-requires : goal.word-y-requires
word-y-requires c = let v = c.loop-k.invariant c.requires.0 c.requires.1 in ahead-place v.1.ahead c.loop-k-test.true

pub take-at-requires : goal.take-at-requires
take-at-requires c = let v = c.loop-k.invariant c.requires.0 c.requires.1 in
    let o = reads-leaf v.0 v.1 c.loop-k-test.true c.word-y.ensures.0 c.if-y-eq0.true in
    record { n_bound = leaf-asks o.2 _; by_index = (_, o.0, leaf-path o.2, leaf-within o.2) }

pub overflow_sub-sp : goal.overflow_sub-sp
overflow_sub-sp c = let v = c.loop-k.invariant c.requires.0 c.requires.1 in
    let o = reads-leaf v.0 v.1 c.loop-k-test.true c.word-y.ensures.0 c.if-y-eq0.true in
    omega (arith, leaf-height o.2)

pub slice_bounds-row_at-end : goal.slice_bounds-row_at-end
slice_bounds-row_at-end c = let v = c.loop-k.invariant c.requires.0 c.requires.1 in sym v.1.wide

pub row_at-x-requires : goal.row_at-x-requires
row_at-x-requires c = let v = c.loop-k.invariant c.requires.0 c.requires.1 in
    let o = reads-leaf v.0 v.1 c.loop-k-test.true c.word-y.ensures.0 c.if-y-eq0.true in
    omega (arith, leaf-height o.2, v.1.wide)

pub slice_bounds-down-end : goal.slice_bounds-down-end
slice_bounds-down-end c = let v = c.loop-k.invariant c.requires.0 c.requires.1 in sym v.1.wide

pub down-x-requires : goal.down-x-requires
down-x-requires c = let v = c.loop-k.invariant c.requires.0 c.requires.1 in
    let o = reads-inner v.0 v.1 c.loop-k-test.true c.word-y.ensures.0 c.if-y-eq0.false in
    let h = inner-asks o.6 o.5 in
    record { len_bound = (h.0, h.2); by_index = (_, o.0, inner-path o.6 o.5) }

pub overflow_add-sp : goal.overflow_add-sp
overflow_add-sp c = let v = c.loop-k.invariant c.requires.0 c.requires.1 in
    let o = reads-inner v.0 v.1 c.loop-k-test.true c.word-y.ensures.0 c.if-y-eq0.false in
    omega (arith, inner-asks o.6 o.5, c.forks-sp.ensures, bit_le (ltb 2 c.word-y.result))

pub loop-k-preserved : goal.loop-k-preserved
loop-k-preserved c t h = let v = c.loop-k.invariant t h in
    elim c.if-y-eq0.branch [
      | then-y-eq0 w ↦ let o = reads-leaf v.0 v.1 c.loop-k-test.true c.word-y.ensures.0 w.if-y-eq0.true in
          rw (w.at-is, w.rows-is, w.stack-is, w.sp-is, w.x-is)
          (_, leaf-taken o.2 (w.take-at.ensures _ o.0 (leaf-path o.2) (leaf-within o.2)) w.row_at-x.ensures)
      | else-y-eq0 w ↦ let o = reads-inner v.0 v.1 c.loop-k-test.true c.word-y.ensures.0 w.if-y-eq0.false in
          rw (w.at-is, w.rows-is, w.stack-is, w.sp-is, w.x-is)
          (_, inner-passed o.6 o.5 o.4 (w.down-x.ensures _ o.0 (inner-path o.6 o.5)) w.forks-sp.ensures)
    ]

pub shape_of-rows : goal.shape_of-rows
shape_of-rows c = let v = c.loop-k.invariant c.requires.0 c.requires.1 in v.1.stands.kept

pub returns : goal.returns
returns c t h = let v = c.loop-k.invariant t h in ranging-end v.0 v.1 c.loop-k-test.false
