-- `combining::flat` meets its contract, by its tests. Assumes nothing.
use native.Mathlib.Omega.{arith}
use Rattle.nets.specs.TrieOps.{kind_of}
use Rattle.trie_emit.proofs.Sources.{rank-le}
use Rattle.trie_spans.proofs.Answered.{writes}
use Rattle.trie_combine.proofs.Flat.{first_alone, second-alone, flat-settled, flat-first, flat-second, flat-rest}
use Rattle.trie_combine.proofs.combining.flat.Goals as goal

pub settled-v-requires : goal.settled-v-requires
settled-v-requires c = let (g, t, u, s, p, ex, ey) = c.requires.by_index in omega (arith, ey, rank-le (kind_of u))

pub returns-then-v-ne-MIXED : goal.returns-then-v-ne-MIXED
returns-then-v-ne-MIXED c g t u s p ex ey = flat-settled _ t u s _ (c.settled-v.ensures (kind_of t) (kind_of u) ex ey) c.if-v-ne-MIXED.true

pub alone-requires : goal.alone-requires
alone-requires c = let (g, t, u, s, p, ex, ey) = c.requires.by_index in
    (g, t, first_alone s, rw (flat-first _ t u s _ (c.settled-v.ensures (kind_of t) (kind_of u) ex ey) c.if-v-ne-MIXED.false _ ey c.if-y-ne-MIXED.true) at p)

pub returns-then-y-ne-MIXED : goal.returns-then-y-ne-MIXED
returns-then-y-ne-MIXED c g t u s p ex ey = let q = flat-first _ t u s _ (c.settled-v.ensures (kind_of t) (kind_of u) ex ey) c.if-v-ne-MIXED.false _ ey c.if-y-ne-MIXED.true in
    rw q (c.alone.ensures g t (first_alone s) (rw q at p))

pub alone-requires-then-op-lt2 : goal.alone-requires-then-op-lt2
alone-requires-then-op-lt2 c = let (g, t, u, s, p, ex, ey) = c.requires.by_index in
    (g, u, second-alone s, rw (flat-second _ t u s _ (c.settled-v.ensures (kind_of t) (kind_of u) ex ey) c.if-v-ne-MIXED.false _ ey c.if-y-ne-MIXED.false _ ex c.requires.fact c.if-op-lt2.true) at p)

pub returns-then-op-lt2 : goal.returns-then-op-lt2
returns-then-op-lt2 c g t u s p ex ey = let q = flat-second _ t u s _ (c.settled-v.ensures (kind_of t) (kind_of u) ex ey) c.if-v-ne-MIXED.false _ ey c.if-y-ne-MIXED.false _ ex c.requires.fact c.if-op-lt2.true in
    rw q (c.alone-then-op-lt2.ensures g u (second-alone s) (rw q at p))

pub emit-z-requires : goal.emit-z-requires
emit-z-requires c = let (g, t, u, s, p, ex, ey) = c.requires.by_index in
    (g, t, u, flat-rest _ t u s _ (c.settled-v.ensures (kind_of t) (kind_of u) ex ey) c.if-v-ne-MIXED.false _ ey c.if-y-ne-MIXED.false c.if-op-lt2.false, p)

pub nodes_of-requires : goal.nodes_of-requires
nodes_of-requires c = let (g, t, u, s, p, ex, ey) = c.requires.by_index in
    (omega (arith, s.few), (_, (c.emit-z.ensures g t u (flat-rest _ t u s _ (c.settled-v.ensures (kind_of t) (kind_of u) ex ey) c.if-v-ne-MIXED.false _ ey c.if-y-ne-MIXED.false c.if-op-lt2.false) p).answers))

pub returns : goal.returns
returns c g t u s p ex ey = let r = c.emit-z.ensures g t u (flat-rest _ t u s _ (c.settled-v.ensures (kind_of t) (kind_of u) ex ey) c.if-v-ne-MIXED.false _ ey c.if-y-ne-MIXED.false c.if-op-lt2.false) p in writes r (c.nodes_of.ensures _ r.answers)
