-- `combining::fill` meets its contract: what emission leaves to write is a leaf of all addresses. Assumes nothing.
use mathlib.Core.List.{[]}
use native.Mathlib.Omega.{arith}
use Rattle.nets.specs.Tries.{Trie}
use Rattle.trie_emit.specs.Combine.{op_on}
use Rattle.kept_emit.specs.Answers.{Emits}
use Rattle.kept_emit.specs.Combine.{Inputs, KeptGap}
use Rattle.kept_emit.proofs.Answered.{leaf-place, all-written}
use Rattle.kept_emit.proofs.combining.fill.Goals as goal

emitted : (c : goal.After-settle-arg-1) (t u : Trie) → let a = c.args in Inputs a.family a.w.now a.b a.n a.a a.c a.o a.e [] a.fuel t u
    → KeptGap a.n a.o a.e (op_on a.op a.fuel t u) → Emits a.family a.w.now c.emit-x.new.w a.b [] a.e c.emit-x.result (op_on a.op a.fuel t u)
emitted c t u i g = c.emit-x.ensures _ [] t u c.whole-path.ensures i g

emitted-slice_known-3-1 : (c : goal.After-slice_known-3-1) (t u : Trie) → let a = c.args in Inputs a.family a.w.now a.b a.n a.a a.c a.o a.e [] a.fuel t u
    → KeptGap a.n a.o a.e (op_on a.op a.fuel t u) → Emits a.family a.w.now c.emit-x.new.w a.b [] a.e c.emit-x.result (op_on a.op a.fuel t u)
emitted-slice_known-3-1 c t u i g = c.emit-x.ensures _ [] t u c.whole-path.ensures i g

pub settle-requires : goal.settle-requires
settle-requires c = let (t, u, i, g, q) = c.requires in
    (leaf-place (emitted c t u i g) _ q i.hold g.one g.room, (omega (arith, g.room, i.hold.few), omega (arith, i.hold.low)))

pub returns : goal.returns
returns c t u i g q = all-written (emitted-slice_known-3-1 c t u i g) _ q (c.settle.ensures [] c.whole-path.ensures (omega arith))
