-- `combining::foresee` meets its contract, by the fuel. Assumes nothing.
use mathlib.Core.Path.{ap, ◌∙◌}
use mathlib.Core.Bool.{true, false}
use native.Mathlib.Omega.{arith}
use Prim.Native.Nat.{ℕ, ◌+◌}
use Rattle.trie_paths.specs.Spans.{snoc}
use Rattle.trie_paths.proofs.Paths.{length-snoc}
use Rattle.nets.proofs.Numbers.{width-le}
use Rattle.kept_emit.proofs.Steps.{op-none, op-full, halving, inside, left-inputs, right-inputs, foreseen-both, foreseen}
use Rattle.kept_emit.proofs.combining.+foresee.Goals as goal

pub outcome-v-requires : goal.outcome-v-requires
outcome-v-requires τ c = let (o, e, p, t, u, q, s) = c.requires in (s.hold, (o, e, p, t, u, q, s.first, s.second))

pub returns-then-v-eq-EMPTY : goal.returns-then-v-eq-EMPTY
returns-then-v-eq-EMPTY τ c o e p t u q s = (op-none s _ _ (c.outcome-v.ensures o e p t u q s.first s.second) c.if-v-eq-EMPTY.true).answers

pub returns-then-v-eq-FULL : goal.returns-then-v-eq-FULL
returns-then-v-eq-FULL τ c o e p t u q s = (op-full s _ _ (c.outcome-v.ensures o e p t u q s.first s.second) c.if-v-eq-FULL.true).answers

pub halves-p-requires : goal.halves-p-requires
halves-p-requires τ c = let (o, e, p, t, u, q, s) = c.requires in (s.hold, (o, e, p, t, u, q, s.first, s.second))

pub halves-q-requires : goal.halves-q-requires
halves-q-requires τ c = let (o, e, p, t, u, q, s) = c.requires in (s.hold, (o, e, p, t, u, q, s.first, s.second))

pub overflow_add-d : goal.overflow_add-d
overflow_add-d τ c = let (o, e, p, t, u, q, s) = c.requires in omega (arith, inside (halving s c.args.op _ (c.outcome-v.ensures o _ p t u q s.first s.second) c.if-v-eq-EMPTY.false c.if-v-eq-FULL.false (c.halves-p.ensures o _ p t u q s.first s.second) (c.halves-q.ensures o _ p t u q s.first s.second)), width-le c.args.family)

pub foresee-l-requires : goal.foresee-l-requires
foresee-l-requires τ c = let (o, e, p, t, u, q, s) = c.requires in
    (omega (arith, c.decreases, s.turn), (o, e, snoc p false, _, _, length-snoc p false ∙ ap (λ (k : ℕ). k + 1) q, left-inputs (halving s c.args.op _ (c.outcome-v.ensures o _ p t u q s.first s.second) c.if-v-eq-EMPTY.false c.if-v-eq-FULL.false (c.halves-p.ensures o _ p t u q s.first s.second) (c.halves-q.ensures o _ p t u q s.first s.second))))

pub overflow_add-d-2 : goal.overflow_add-d-2
overflow_add-d-2 τ c = let (o, e, p, t, u, q, s) = c.requires in omega (
  arith,
  inside (halving s c.args.op _ (c.outcome-v.ensures o _ p t u q s.first s.second) c.if-v-eq-EMPTY.false c.if-v-eq-FULL.false (c.halves-p.ensures o _ p t u q s.first s.second) (c.halves-q.ensures o _ p t u q s.first s.second)),
  width-le c.args.family,
)

pub foresee-r-requires : goal.foresee-r-requires
foresee-r-requires τ c = let (o, e, p, t, u, q, s) = c.requires in (
  omega (arith, c.decreases, s.turn),
  (
    o,
    e,
    snoc p true,
    _,
    _,
    length-snoc p true
        ∙ ap (λ (k : ℕ). k + 1) q,
    right-inputs (halving s c.args.op _ (c.outcome-v.ensures o _ p t u q s.first s.second) c.if-v-eq-EMPTY.false c.if-v-eq-FULL.false (c.halves-p.ensures o _ p t u q s.first s.second) (c.halves-q.ensures o _ p t u q s.first s.second)),
  ),
)

pub answer_over-requires : goal.answer_over-requires
answer_over-requires τ c = let (o, e, p, t, u, q, s) = c.requires in (
  _,
  _,
  foreseen-both (halving s c.args.op _ (c.outcome-v.ensures o _ p t u q s.first s.second) c.if-v-eq-EMPTY.false c.if-v-eq-FULL.false (c.halves-p.ensures o _ p t u q s.first s.second) (c.halves-q.ensures o _ p t u q s.first s.second)) _ _
      (λ o₁ e₁ k v z le i. c.foresee-l.ensures o₁ e₁ k v z (le ∙ ap (λ (j : ℕ). j + 1) q) i)
      (λ o₁ e₁ k v z le i. c.foresee-r.ensures o₁ e₁ k v z (le ∙ ap (λ (j : ℕ). j + 1) q) i),
)

pub returns : goal.returns
returns τ c o e p t u q s = foreseen (halving s c.args.op _ (c.outcome-v.ensures o _ p t u q s.first s.second) c.if-v-eq-EMPTY.false c.if-v-eq-FULL.false (c.halves-p.ensures o _ p t u q s.first s.second) (c.halves-q.ensures o _ p t u q s.first s.second)) _ _
    (λ o₁ e₁ k v z le i. c.foresee-l.ensures o₁ e₁ k v z (le ∙ ap (λ (j : ℕ). j + 1) q) i)
    (λ o₁ e₁ k v z le i. c.foresee-r.ensures o₁ e₁ k v z (le ∙ ap (λ (j : ℕ). j + 1) q) i) _ c.answer_over.ensures
