-- `combining::emit` meets its contract: the sources by where they end. Assumes nothing.
use native.Mathlib.Omega.{arith}
use Rattle.trie_combine.proofs.Forks.{inputs-extents, gap-small}
use Rattle.trie_combine.proofs.combining.emit.Goals as goal

pub end_from-ea-requires : goal.end_from-ea-requires
end_from-ea-requires c = let (g, t, u, s, p) = c.requires in
    record { by_index = (_, g, t, s.first); i_bound = omega (arith, c.if-max-ge-ALL.false, c.max.ensures) }

pub end_from-ec-requires : goal.end_from-ec-requires
end_from-ec-requires c = let (g, t, u, s, p) = c.requires in
    record { by_index = (_, g, u, s.second); i_bound = omega (arith, c.if-max-ge-ALL.false, c.max.ensures) }

pub combine-n-requires : goal.combine-n-requires
combine-n-requires c = let (g, t, u, s, p) = c.requires in (g, t, u, inputs-extents t u s _ c.max.ensures (omega (arith, c.if-max-ge-ALL.false)) (c.end_from-ea.ensures _ g t s.first) (c.end_from-ec.ensures _ g u s.second), p)

pub answer_of-requires : goal.answer_of-requires
answer_of-requires c = let (g, t, u, s, p) = c.requires in
    omega (arith, (c.combine-n.ensures g t u (inputs-extents t u s _ c.max.ensures (omega (arith, c.if-max-ge-ALL.false)) (c.end_from-ea.ensures _ g t s.first) (c.end_from-ec.ensures _ g u s.second)) p).counts, gap-small _ p (omega (arith, s.few, s.turn)))

pub returns : goal.returns
returns c g t u s p = let h = c.combine-n.ensures g t u (inputs-extents t u s _ c.max.ensures (omega (arith, c.if-max-ge-ALL.false)) (c.end_from-ea.ensures _ g t s.first) (c.end_from-ec.ensures _ g u s.second)) p in record { answers = c.answer_of.ensures _ h.counts; wrote = h.wrote }
