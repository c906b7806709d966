-- `write` meets its contract: the sources stand apart from the gap, so the result is emitted into it, or the first source is copied. Assumes nothing.
use mathlib.Core.Bool.{true}
use mathlib.Core.Path.{◌≡◌, sym, ◌∙◌}
use borrow.Author.Rules.{rules}
use Rattle.nets.specs.Tries.{Trie}
use Rattle.trie_emit.specs.Answers.{Emits}
use Rattle.trie_emit.specs.Combine.{op_on}
use Rattle.combine_write.specs.Steps.{is_copy, ResultFits}
use Rattle.combine_write.proofs.Gaps.{write-inputs, write-free, write-settles, write-wrote}
use Rattle.combine_write.proofs.Copied.{copy-asks, copy-wrote}
use Rattle.combine_write.proofs.write.Goals as goal

copying : (c : goal.After-copy-arg-1) → let a = c.args in is_copy a.op a.s ≡ true
copying c = sym c.is_copy.ensures ∙ c.if-is_copy.true

copying-slice_known-then-is_copy-1 : (c : goal.After-slice_known-then-is_copy-1) → let a = c.args in is_copy a.op a.s ≡ true
copying-slice_known-then-is_copy-1 c = sym c.is_copy.ensures ∙ c.if-is_copy.true

emitted : (c : goal.After-settle-arg-1) (t u : Trie) → let a = c.args in ResultFits a.pool.now a.op a.s a.v a.n t u
    → Emits c.shift_behind.new.w c.emit-x.new.w a.s.base a.v.at c.emit-x.result (op_on a.op a.s.levels t u)
emitted c t u h = let e = c.shift_behind.ensures in
    c.emit-x.ensures _ t u (write-inputs h e c.moved-a.ensures c.moved-c.ensures) (write-free h e)

emitted-slice_known-4-1 : (c : goal.After-slice_known-4-1) (t u : Trie) → let a = c.args in ResultFits a.pool.now a.op a.s a.v a.n t u
    → Emits c.shift_behind.new.w c.emit-x.new.w a.s.base a.v.at c.emit-x.result (op_on a.op a.s.levels t u)
emitted-slice_known-4-1 c t u h = let e = c.shift_behind.ensures in
    c.emit-x.ensures _ t u (write-inputs h e c.moved-a.ensures c.moved-c.ensures) (write-free h e)

pub copy-requires : goal.copy-requires
copy-requires c = let (t, u, h) = c.requires in
    copy-asks h c.shift_behind.ensures (copying c) c.moved-a.ensures

pub returns-then-is_copy : goal.returns-then-is_copy
returns-then-is_copy c t u h = copy-wrote h c.shift_behind.ensures (copying-slice_known-then-is_copy-1 c) c.moved-a.ensures c.copy.ensures

pub emit-x-requires : goal.emit-x-requires
emit-x-requires c = let (t, u, h) = c.requires in
    let e = c.shift_behind.ensures in
    (_, t, u, write-inputs h e c.moved-a.ensures c.moved-c.ensures, write-free h e)

pub settle-requires : goal.settle-requires
settle-requires c = let (t, u, h) = c.requires in
    write-settles h c.shift_behind.ensures (emitted c t u h)

pub returns : goal.returns
returns c t u h = write-wrote h c.shift_behind.ensures (emitted-slice_known-4-1 c t u h) c.settle.ensures
