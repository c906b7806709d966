-- `answering::block` meets its contract, by its test. Assumes nothing.
use mathlib.Core.Path.{refl}
use Prim.Native.Nat.{◌+◌, ◌-◌, ◌≤◌}
use native.Mathlib.Omega.{arith}
use lib.ListN.{length}
use Rattle.nodes.specs.Words.{place}
use Rattle.trie_spans.proofs.Answered.{writes-few, block-nodes, block-fits, block-put}
use Rattle.trie_spans.proofs.answering.block.Goals as goal

fits : (c : goal.After-shift-arg-1) → let a = c.args in
    (1 ≤ a.i) × (1 ≤ a.o) × (place a.b a.i + (a.e - a.i) ≤ length a.w.now) × (place a.b a.o + (a.e - a.i) ≤ length a.w.now)
fits c = let (g, t, s, p) = c.requires in block-fits t s p _ refl (omega (arith, c.if-n-lt2.false))

pub returns-then-n-lt2 : goal.returns-then-n-lt2
returns-then-n-lt2 c g t s p = writes-few _ _ _ _ t (block-nodes t s p) c.if-n-lt2.true

pub overflow_sub-i : goal.overflow_sub-i
overflow_sub-i c = (fits c).0

pub overflow_add-b : goal.overflow_add-b
overflow_add-b c = omega (arith, fits c)

pub overflow_add-b-2 : goal.overflow_add-b-2
overflow_add-b-2 c = omega (arith, fits c)

pub shift-requires : goal.shift-requires
shift-requires c = let f = fits c in (f.2, f.3)

pub returns : goal.returns
returns c g t s p = block-put t s p _ refl (omega (arith, c.if-n-lt2.false)) _ c.shift.ensures
