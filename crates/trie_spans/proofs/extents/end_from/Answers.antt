-- `extents::end_from` meets its contract. The loop's invariant: the trie at node k ends where the whole does. Assumes nothing.
use Prim.Native.Nat.{ℕ, ◌+◌}
use native.Mathlib.Omega.{arith}
use Rattle.nets.specs.Tries.{Trie, size}
use Rattle.trie_emit.specs.Combine.{Means}
use Rattle.trie_spans.proofs.Spans.{Last, last-start, last_none, last_fits, last_leaf, last_on, ahead-some}
use Rattle.trie_spans.proofs.extents.end_from.Goals as goal

next : (c : goal.After-last_ahead-k) (o g : ℕ) (t : Trie) → let a = c.args in
    Means a.w.now a.b o g a.i t → Last a.w.now a.b o g (c.loop-b.k + c.last_ahead-k.result) (a.i + size t)
next c o g t m = rw c.last_ahead-k.ensures (last_on (c.loop-b.invariant o g t m) _ c.word-x.ensures.0 c.if-x-eq0.false)

pub returns-then-i-eq0 : goal.returns-then-i-eq0
returns-then-i-eq0 c o g t m = last_none _ t m c.if-i-eq0.true

pub loop-b-init : goal.loop-b-init
loop-b-init c o g t m = last-start _ t m c.requires.i_bound c.if-i-eq0.false

pub word-x-requires : goal.word-x-requires
word-x-requires c = let (o, g, t, m) = c.requires.by_index in let f = last_fits (c.loop-b.invariant o g t m) in (f.0, f.1)

pub overflow_add-result : goal.overflow_add-result
overflow_add-result c = let (o, g, t, m) = c.requires.by_index in omega (arith, last_fits (c.loop-b.invariant o g t m))

pub returns-then-x-eq0 : goal.returns-then-x-eq0
returns-then-x-eq0 c o g t m = last_leaf (c.loop-b.invariant o g t m) _ c.word-x.ensures.0 c.if-x-eq0.true

pub overflow_add-k : goal.overflow_add-k
overflow_add-k c = let (o, g, t, m) = c.requires.by_index in omega (arith, last_fits (next c o g t m))

pub loop-b-smaller : goal.loop-b-smaller
loop-b-smaller c = let (o, g, t, m) = c.requires.by_index in
    omega (arith, last_fits (next c o g t m), c.last_ahead-k.ensures, ahead-some c.word-x.result)

pub loop-b-preserved : goal.loop-b-preserved
loop-b-preserved c = next c
