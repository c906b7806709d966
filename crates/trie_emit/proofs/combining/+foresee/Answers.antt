-- `combining::foresee` meets its contract, by the fuel. Assumes nothing.
use native.Mathlib.Omega.{arith}
use Rattle.trie_emit.proofs.Combine.{op-none, op-full, split, left-inputs, right-inputs, foreseen-both, foreseen}
use Rattle.trie_emit.proofs.combining.+foresee.Goals as goal

pub outcome-v-requires : goal.outcome-v-requires
outcome-v-requires τ c = let (g, t, u, s) = c.requires in (_, g, t, u, s.first, s.second)

pub returns-then-v-eq-EMPTY : goal.returns-then-v-eq-EMPTY
returns-then-v-eq-EMPTY τ c g t u s = (op-none s _ _ (c.outcome-v.ensures _ g t u s.first s.second) c.if-v-eq-EMPTY.true).answers

pub returns-then-v-eq-FULL : goal.returns-then-v-eq-FULL
returns-then-v-eq-FULL τ c g t u s = (op-full s _ _ (c.outcome-v.ensures _ g t u s.first s.second) c.if-v-eq-FULL.true).answers

pub halves-p-requires : goal.halves-p-requires
halves-p-requires τ c = let (g, t, u, s) = c.requires in (_, g, t, u, s.first, s.second)

pub halves-q-requires : goal.halves-q-requires
halves-q-requires τ c = let (g, t, u, s) = c.requires in (_, g, t, u, s.first, s.second)

pub foresee-l-requires : goal.foresee-l-requires
foresee-l-requires τ c = let (g, t, u, s) = c.requires in (omega (arith, c.decreases, s.turn), (g, _, _, left-inputs (split s c.args.op _ (c.outcome-v.ensures _ g t u s.first s.second) c.if-v-eq-EMPTY.false c.if-v-eq-FULL.false (c.halves-p.ensures _ g t u s.first s.second) (c.halves-q.ensures _ g t u s.first s.second))))

pub foresee-r-requires : goal.foresee-r-requires
foresee-r-requires τ c = let (g, t, u, s) = c.requires in
    (omega (arith, c.decreases, s.turn), (g, _, _, right-inputs (split s c.args.op _ (c.outcome-v.ensures _ g t u s.first s.second) c.if-v-eq-EMPTY.false c.if-v-eq-FULL.false (c.halves-p.ensures _ g t u s.first s.second) (c.halves-q.ensures _ g t u s.first s.second)) _ _ c.foresee-l.ensures c.end_of-m.ensures))

pub parent-requires : goal.parent-requires
parent-requires τ c = let (g, t, u, s) = c.requires in
    (_, _, foreseen-both (split s c.args.op _ (c.outcome-v.ensures _ g t u s.first s.second) c.if-v-eq-EMPTY.false c.if-v-eq-FULL.false (c.halves-p.ensures _ g t u s.first s.second) (c.halves-q.ensures _ g t u s.first s.second)) _ _ c.foresee-l.ensures c.end_of-m.ensures _ c.foresee-r.ensures)

pub returns : goal.returns
returns τ c g t u s = foreseen (split s c.args.op _ (c.outcome-v.ensures _ g t u s.first s.second) c.if-v-eq-EMPTY.false c.if-v-eq-FULL.false (c.halves-p.ensures _ g t u s.first s.second) (c.halves-q.ensures _ g t u s.first s.second)) _ _ c.foresee-l.ensures c.end_of-m.ensures _ c.foresee-r.ensures _ c.parent.ensures
