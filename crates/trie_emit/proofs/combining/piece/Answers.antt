-- `combining::piece` meets its contract, by its tests. Assumes nothing.
use Prim.Native.Nat.{◌≤◌, ◌<◌}
use native.Mathlib.Omega.{arith}
use lib.ListN.{length}
use Rattle.nodes.specs.Words.{place}
use Rattle.trie_emit.proofs.Sources.{piece-none, piece-all, piece-fits, piece-absent, piece-child, side-le}
use Rattle.trie_emit.proofs.combining.piece.Goals as goal

fits : (c : goal.Else-k-eq-FULL) → let a = c.args in (1 ≤ a.i) × (place a.b a.i < length a.w.now) × (a.i ≤ 1073741824)
fits c = let (o, g, t, m) = c.requires in piece-fits c.args.second _ t m _ (c.kind-k.ensures o g t m) c.if-k-eq-EMPTY.false c.if-k-eq-FULL.false

fits-else-d-eq0 : (c : goal.Else-d-eq0) → let a = c.args in (1 ≤ a.i) × (place a.b a.i < length a.w.now) × (a.i ≤ 1073741824)
fits-else-d-eq0 c = let (o, g, t, m) = c.requires in piece-fits c.args.second _ t m _ (c.kind-k.ensures o g t m) c.if-k-eq-EMPTY.false c.if-k-eq-FULL.false

pub returns-then-k-eq-EMPTY : goal.returns-then-k-eq-EMPTY
returns-then-k-eq-EMPTY c o g t m = piece-none _ _ t m _ (c.kind-k.ensures o g t m) c.if-k-eq-EMPTY.true

pub returns-then-k-eq-FULL : goal.returns-then-k-eq-FULL
returns-then-k-eq-FULL c o g t m = piece-all _ _ t m _ (c.kind-k.ensures o g t m) c.if-k-eq-FULL.true

pub word-requires : goal.word-requires
word-requires c = let h = fits c in (h.0, h.1)

pub returns-then-d-eq0 : goal.returns-then-d-eq0
returns-then-d-eq0 c o g t m = piece-absent _ _ t m _ (c.kind-k.ensures o g t m) c.if-k-eq-EMPTY.false c.if-k-eq-FULL.false _ _ c.word.ensures.0 c.distance-d.ensures c.if-d-eq0.true

pub overflow_add-result : goal.overflow_add-result
overflow_add-result c = let h = fits-else-d-eq0 c in
    omega (arith, c.distance-d.ensures, c.word.ensures.1, side-le c.args.second c.word.result)

pub returns : goal.returns
returns c o g t m = piece-child _ _ t m _ (c.kind-k.ensures o g t m) c.if-k-eq-EMPTY.false c.if-k-eq-FULL.false _ _ c.word.ensures.0 c.distance-d.ensures c.if-d-eq0.false
