-- `append` meets its contract: nothing moves, and the result is emitted behind all nodes. Assumes nothing.
use native.Mathlib.Omega.{arith}
use borrow.Author.Rules.{rules}
use Rattle.nets.specs.Tries.{Trie}
use Rattle.trie_emit.specs.Answers.{Emits}
use Rattle.trie_emit.specs.Combine.{op_on}
use Rattle.combine_write.specs.Steps.{Last}
use Rattle.combine_write.proofs.Gaps.{last-inputs, last-free, last-settles, last_end, last-wrote}
use Rattle.combine_write.proofs.append.Goals as goal

emitted : (c : goal.After-settle-arg-1) (t u : Trie) → let a = c.args in Last a.pool.now a.op a.s a.v t u
    → Emits a.pool.now c.emit-x.new.w a.s.base a.v.at c.emit-x.result (op_on a.op a.s.levels t u)
emitted c t u h = c.emit-x.ensures _ t u (last-inputs h) (last-free h)

emitted-end_of : (c : goal.After-end_of) (t u : Trie) → let a = c.args in Last a.pool.now a.op a.s a.v t u
    → Emits a.pool.now c.emit-x.new.w a.s.base a.v.at c.emit-x.result (op_on a.op a.s.levels t u)
emitted-end_of c t u h = c.emit-x.ensures _ t u (last-inputs h) (last-free h)

pub emit-x-requires : goal.emit-x-requires
emit-x-requires c = let (t, u, h) = c.requires in (_, t, u, last-inputs h, last-free h)

pub settle-requires : goal.settle-requires
settle-requires c = let (t, u, h) = c.requires in last-settles h (emitted c t u h)

pub end_of-requires : goal.end_of-requires
end_of-requires c = let (t, u, h) = c.requires in omega (arith, h.writable.few, h.last)

pub overflow_sub-result : goal.overflow_sub-result
overflow_sub-result c = let (t, u, h) = c.requires in omega (arith, last_end h (emitted-end_of c t u h) c.end_of.ensures)

pub overflow_cast-result : goal.overflow_cast-result
overflow_cast-result c = let (t, u, h) = c.requires in omega (arith, last_end h (emitted-end_of c t u h) c.end_of.ensures, h.writable.few)

pub returns : goal.returns
returns c t u h = let e = last_end h (emitted-end_of c t u h) c.end_of.ensures in
    (omega (arith, e), last-wrote h (emitted-end_of c t u h) (omega (arith, e)) c.settle.ensures)
