-- `combined::leaves` meets its contract, by the fuel. Assumes nothing.
use mathlib.Core.Bool.{true, false}
use native.Mathlib.Omega.{arith}
use Rattle.nets.proofs.Numbers.{width-le}
use Rattle.trie_paths.specs.Spans.{snoc}
use Rattle.trie_meets.proofs.Operation.{step-first, step-second}
use Rattle.kept_emit.proofs.Steps.{halving, inside, left-inputs, right-inputs}
use Rattle.kept_meets.proofs.Operation.{leaves_none, leaves-full, deeper}
use Rattle.kept_meets.proofs.combined.+leaves.Goals as goal

pub outcome-v-requires : goal.outcome-v-requires
outcome-v-requires τ c = let (p, t, u, q, s) = c.requires in (s.hold, (0, 0, p, t, u, q, s.first, s.second))

pub returns-then-v-eq-EMPTY : goal.returns-then-v-eq-EMPTY
returns-then-v-eq-EMPTY τ c p t u q s = leaves_none s _ _ (c.outcome-v.ensures 0 0 p t u q s.first s.second) c.if-v-eq-EMPTY.true

pub returns-then-v-eq-FULL : goal.returns-then-v-eq-FULL
returns-then-v-eq-FULL τ c p t u q s = leaves-full s _ _ (c.outcome-v.ensures 0 0 p t u q s.first s.second) c.if-v-eq-FULL.true

pub halves-p-requires : goal.halves-p-requires
halves-p-requires τ c = let (p, t, u, q, s) = c.requires in (s.hold, (0, 0, p, t, u, q, s.first, s.second))

pub halves-q-requires : goal.halves-q-requires
halves-q-requires τ c = let (p, t, u, q, s) = c.requires in (s.hold, (0, 0, p, t, u, q, s.first, s.second))

pub overflow_add-d : goal.overflow_add-d
overflow_add-d τ c = let (p, t, u, q, s) = c.requires in omega (arith, inside (halving s c.args.op _ (c.outcome-v.ensures 0 0 p t u q s.first s.second) c.if-v-eq-EMPTY.false c.if-v-eq-FULL.false (c.halves-p.ensures 0 0 p t u q s.first s.second) (c.halves-q.ensures 0 0 p t u q s.first s.second)), width-le c.args.family)

pub overflow_sub-fuel : goal.overflow_sub-fuel
overflow_sub-fuel τ c = let s = c.requires.4 in omega arith

pub leaves-requires : goal.leaves-requires
leaves-requires τ c = let (p, t, u, q, s) = c.requires in
    (omega (arith, c.decreases, s.turn), (snoc p false, _, _, deeper p false q, left-inputs (halving s c.args.op _ (c.outcome-v.ensures 0 0 p t u q s.first s.second) c.if-v-eq-EMPTY.false c.if-v-eq-FULL.false (c.halves-p.ensures 0 0 p t u q s.first s.second) (c.halves-q.ensures 0 0 p t u q s.first s.second))))

pub returns-then-leaves : goal.returns-then-leaves
returns-then-leaves τ c p t u q s = let d = halving s c.args.op _ (c.outcome-v.ensures 0 0 p t u q s.first s.second) c.if-v-eq-EMPTY.false c.if-v-eq-FULL.false (c.halves-p.ensures 0 0 p t u q s.first s.second) (c.halves-q.ensures 0 0 p t u q s.first s.second) in
    step-first _ _ t u s.turn d.mixes _ (c.leaves.ensures _ _ _ (deeper p false q) (left-inputs d)) c.if-leaves.true

pub overflow_add-d-2 : goal.overflow_add-d-2
overflow_add-d-2 τ c = let (p, t, u, q, s) = c.requires in
    omega (arith, inside (halving s c.args.op _ (c.outcome-v.ensures 0 0 p t u q s.first s.second) c.if-v-eq-EMPTY.false c.if-v-eq-FULL.false (c.halves-p.ensures 0 0 p t u q s.first s.second) (c.halves-q.ensures 0 0 p t u q s.first s.second)), width-le c.args.family)

pub overflow_sub-fuel-2 : goal.overflow_sub-fuel-2
overflow_sub-fuel-2 τ c = let s = c.requires.4 in omega arith

pub leaves-requires-2 : goal.leaves-requires-2
leaves-requires-2 τ c = let (p, t, u, q, s) = c.requires in
    (omega (arith, c.decreases, s.turn), (snoc p true, _, _, deeper p true q, right-inputs (halving s c.args.op _ (c.outcome-v.ensures 0 0 p t u q s.first s.second) c.if-v-eq-EMPTY.false c.if-v-eq-FULL.false (c.halves-p.ensures 0 0 p t u q s.first s.second) (c.halves-q.ensures 0 0 p t u q s.first s.second))))

pub returns : goal.returns
returns τ c p t u q s = let d = halving s c.args.op _ (c.outcome-v.ensures 0 0 p t u q s.first s.second) c.if-v-eq-EMPTY.false c.if-v-eq-FULL.false (c.halves-p.ensures 0 0 p t u q s.first s.second) (c.halves-q.ensures 0 0 p t u q s.first s.second) in
    step-second _ _ t u s.turn d.mixes _ _ (c.leaves.ensures _ _ _ (deeper p false q) (left-inputs d)) c.if-leaves.false
    (c.leaves-2.ensures _ _ _ (deeper p true q) (right-inputs d))
