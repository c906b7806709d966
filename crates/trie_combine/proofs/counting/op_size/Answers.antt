-- `counting::op_size` meets its contract: the sources by where they end. Assumes nothing.
use native.Mathlib.Omega.{arith}
use Rattle.trie_combine.proofs.Forks.{inputs-extents}
use Rattle.trie_combine.proofs.counting.op_size.Goals as goal

pub end_from-ea-requires : goal.end_from-ea-requires
end_from-ea-requires c = let (t, u, s) = c.requires in
    record { by_index = (_, _, t, s.first); i_bound = omega (arith, c.if-max-ge-ALL.false, c.max.ensures) }

pub end_from-ec-requires : goal.end_from-ec-requires
end_from-ec-requires c = let (t, u, s) = c.requires in
    record { by_index = (_, _, u, s.second); i_bound = omega (arith, c.if-max-ge-ALL.false, c.max.ensures) }

pub count-requires : goal.count-requires
count-requires c = let (t, u, s) = c.requires in (t, u, inputs-extents t u s _ c.max.ensures (omega (arith, c.if-max-ge-ALL.false)) (c.end_from-ea.ensures _ _ t s.first) (c.end_from-ec.ensures _ _ u s.second))

pub returns : goal.returns
returns c t u s = c.count.ensures t u (inputs-extents t u s _ c.max.ensures (omega (arith, c.if-max-ge-ALL.false)) (c.end_from-ea.ensures _ _ t s.first) (c.end_from-ec.ensures _ _ u s.second))
