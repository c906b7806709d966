-- `counting::flat` meets its contract, by its tests. Assumes nothing.
use native.Mathlib.Omega.{arith}
use Rattle.nets.specs.TrieOps.{kind_of}
use Rattle.trie_emit.proofs.Sources.{rank-le}
use Rattle.trie_combine.proofs.Flat.{first_alone, second-alone, flat-settled, flat-first, flat-second, flat-rest}
use Rattle.trie_combine.proofs.counting.flat.Goals as goal

pub settled-v-requires : goal.settled-v-requires
settled-v-requires c = let (t, u, s, ex, ey) = c.requires.extents in omega (arith, ey, rank-le (kind_of u))

pub returns-then-v-ne-MIXED : goal.returns-then-v-ne-MIXED
returns-then-v-ne-MIXED c t u s ex ey = (flat-settled _ t u s _ (c.settled-v.ensures (kind_of t) (kind_of u) ex ey) c.if-v-ne-MIXED.true).counts

pub alone-requires : goal.alone-requires
alone-requires c = let (t, u, s, ex, ey) = c.requires.extents in (t, first_alone s)

pub returns-then-y-ne-MIXED : goal.returns-then-y-ne-MIXED
returns-then-y-ne-MIXED c t u s ex ey = rw (flat-first _ t u s _ (c.settled-v.ensures (kind_of t) (kind_of u) ex ey) c.if-v-ne-MIXED.false _ ey c.if-y-ne-MIXED.true) (c.alone.ensures t (first_alone s))

pub alone-requires-then-op-lt2 : goal.alone-requires-then-op-lt2
alone-requires-then-op-lt2 c = let (t, u, s, ex, ey) = c.requires.extents in (u, second-alone s)

pub returns-then-op-lt2 : goal.returns-then-op-lt2
returns-then-op-lt2 c t u s ex ey = rw (flat-second _ t u s _ (c.settled-v.ensures (kind_of t) (kind_of u) ex ey) c.if-v-ne-MIXED.false _ ey c.if-y-ne-MIXED.false _ ex c.requires.fact c.if-op-lt2.true) (c.alone-then-op-lt2.ensures u (second-alone s))

pub op_size-requires : goal.op_size-requires
op_size-requires c = let (t, u, s, ex, ey) = c.requires.extents in
    (t, u, flat-rest _ t u s _ (c.settled-v.ensures (kind_of t) (kind_of u) ex ey) c.if-v-ne-MIXED.false _ ey c.if-y-ne-MIXED.false c.if-op-lt2.false)

pub returns : goal.returns
returns c t u s ex ey = c.op_size.ensures t u (flat-rest _ t u s _ (c.settled-v.ensures (kind_of t) (kind_of u) ex ey) c.if-v-ne-MIXED.false _ ey c.if-y-ne-MIXED.false c.if-op-lt2.false)
