-- `combined::leaves` meets its contract, by the fuel. Assumes nothing.
use mathlib.Core.Bool.{true, false}
use native.Mathlib.Omega.{arith}
use Rattle.trie_meets.proofs.Operation.{leaves_none, leaves-full, half-inputs, leaves-first, leaves-second}
use Rattle.trie_meets.proofs.combined.+leaves.Goals as goal

pub outcome-v-requires : goal.outcome-v-requires
outcome-v-requires τ c = let (t, u, s) = c.requires in (0, 0, t, u, s.first, s.second)

pub returns-then-v-eq-EMPTY : goal.returns-then-v-eq-EMPTY
returns-then-v-eq-EMPTY τ c t u s = leaves_none s _ _ (c.outcome-v.ensures 0 0 t u s.first s.second) c.if-v-eq-EMPTY.true

pub returns-then-v-eq-FULL : goal.returns-then-v-eq-FULL
returns-then-v-eq-FULL τ c t u s = leaves-full s _ _ (c.outcome-v.ensures 0 0 t u s.first s.second) c.if-v-eq-FULL.true

pub halves-p-requires : goal.halves-p-requires
halves-p-requires τ c = let (t, u, s) = c.requires in (0, 0, t, u, s.first, s.second)

pub overflow_sub-fuel : goal.overflow_sub-fuel
overflow_sub-fuel τ c = let s = c.requires.2 in omega arith

pub leaves-requires : goal.leaves-requires
leaves-requires τ c = let (t, u, s) = c.requires in
    (omega (arith, c.decreases, s.turn), (_, _, (half-inputs s c.args.op _ (c.outcome-v.ensures 0 0 t u s.first s.second) c.if-v-eq-EMPTY.false c.if-v-eq-FULL.false false _ _ (c.halves-p.ensures 0 0 t u s.first s.second))))

pub returns-then-leaves : goal.returns-then-leaves
returns-then-leaves τ c t u s = leaves-first s _ _ (c.outcome-v.ensures 0 0 t u s.first s.second) c.if-v-eq-EMPTY.false c.if-v-eq-FULL.false _
    (c.leaves.ensures _ _ (half-inputs s c.args.op _ (c.outcome-v.ensures 0 0 t u s.first s.second) c.if-v-eq-EMPTY.false c.if-v-eq-FULL.false false _ _ (c.halves-p.ensures 0 0 t u s.first s.second))) c.if-leaves.true

pub halves-q-requires : goal.halves-q-requires
halves-q-requires τ c = let (t, u, s) = c.requires in (0, 0, t, u, s.first, s.second)

pub overflow_sub-fuel-2 : goal.overflow_sub-fuel-2
overflow_sub-fuel-2 τ c = let s = c.requires.2 in omega arith

pub leaves-requires-2 : goal.leaves-requires-2
leaves-requires-2 τ c = let (t, u, s) = c.requires in
    (omega (arith, c.decreases, s.turn), (_, _, (half-inputs s c.args.op _ (c.outcome-v.ensures 0 0 t u s.first s.second) c.if-v-eq-EMPTY.false c.if-v-eq-FULL.false true _ _ (c.halves-q.ensures 0 0 t u s.first s.second))))

pub returns : goal.returns
returns τ c t u s = leaves-second s _ _ (c.outcome-v.ensures 0 0 t u s.first s.second) c.if-v-eq-EMPTY.false c.if-v-eq-FULL.false _ _
    (c.leaves.ensures _ _ (half-inputs s c.args.op _ (c.outcome-v.ensures 0 0 t u s.first s.second) c.if-v-eq-EMPTY.false c.if-v-eq-FULL.false false _ _ (c.halves-p.ensures 0 0 t u s.first s.second))) c.if-leaves.false
    (c.leaves-2.ensures _ _ (half-inputs s c.args.op _ (c.outcome-v.ensures 0 0 t u s.first s.second) c.if-v-eq-EMPTY.false c.if-v-eq-FULL.false true _ _ (c.halves-q.ensures 0 0 t u s.first s.second)))
