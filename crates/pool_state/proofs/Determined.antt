-- Each call has one outcome: two answers that its contract allows for the same words and arguments are equal, and so are the words that they leave. An answer is
-- known by its number and its values. Assumes nothing.
use mathlib.Core.Path.{◌≡◌, sym, ap, ◌∙◌}
use mathlib.Core.List.{List}
use Prim.Native.Nat.{ℕ}
use Rattle.nets.specs.Refusals.{Rule}
use Rattle.nets.proofs.Answers.{number-one, number-some}
use Rattle.pool_state.specs.Decode.{decode}
use Rattle.pool_state.specs.Rules.{answer_as, report_as, told_as, Setup, Laid, free_rule, held_rule, plan_rule}
use Rattle.pool_state.specs.States.{SetState, State}
use Rattle.pool_state.specs.Changes.{Changed}
use Rattle.std.specs.Prelude.{Result, Ok, Err, Bool}
use Rattle.nets.specs.declared.Refusal.{Refusal}

pub answer_as-one : (r s : Result ℕ Refusal) → answer_as r ≡ answer_as s → r ≡ s
answer_as-one (Ok m) (Ok n) e = ap Ok (ap (λ p. p.1) e)
answer_as-one (Ok m) (Err y) e = absurd (number-some y (sym (ap (λ p. p.0) e)))
answer_as-one (Err x) (Ok n) e = absurd (number-some x (ap (λ p. p.0) e))
answer_as-one (Err x) (Err y) e = ap Err (number-one x y (ap (λ p. p.0) e))

pub report_as-one : (r s : Result (ℕ × ℕ) Refusal) → report_as r ≡ report_as s → r ≡ s
report_as-one (Ok (a, b)) (Ok (c, d)) e = let p : a ≡ c = ap (λ x. x.1.0) e in let q : b ≡ d = ap (λ x. x.1.1) e in cc
report_as-one (Ok (a, b)) (Err y) e = absurd (number-some y (sym (ap (λ p. p.0) e)))
report_as-one (Err x) (Ok (a, b)) e = absurd (number-some x (ap (λ p. p.0) e))
report_as-one (Err x) (Err y) e = ap Err (number-one x y (ap (λ p. p.0) e))

pub told_as-one : (r s : Result Bool Refusal) → told_as r ≡ told_as s → r ≡ s
told_as-one (Ok a) (Ok b) e = ap Ok (ap (λ p. p.1) e)
told_as-one (Ok a) (Err y) e = absurd (number-some y (sym (ap (λ p. p.0) e)))
told_as-one (Err x) (Ok b) e = absurd (number-some x (ap (λ p. p.0) e))
told_as-one (Err x) (Err y) e = ap Err (number-one x y (ap (λ p. p.0) e))

pub layout-determined : {w : List ℕ} {p : Setup} {r s : (Result ℕ Refusal)} {u v : List ℕ} → Laid w p (answer_as r) u → Laid w p (answer_as s) v → (r ≡ s) × (u ≡ v)
layout-determined {r = r} {s = s} h k = (answer_as-one r s (h.answer ∙ sym k.answer), h.words ∙ sym k.words)

module _ (w : List ℕ) where
  pub free-determined : (r s : Result ℕ Refusal) → answer_as r ≡ free_rule (decode w) → answer_as s ≡ free_rule (decode w) → r ≡ s
  free-determined r s e f = answer_as-one r s (e ∙ sym f)

  module _ (k : ℕ) (r s : Result (ℕ × ℕ) Refusal) where
    pub held-determined : report_as r ≡ held_rule (decode w) k → report_as s ≡ held_rule (decode w) k → r ≡ s
    held-determined e f = report_as-one r s (e ∙ sym f)

    pub plan-determined : report_as r ≡ plan_rule (decode w) k → report_as s ≡ plan_rule (decode w) k → r ≡ s
    plan-determined e f = report_as-one r s (e ∙ sym f)

-- a call that answers and leaves something
pub owed-one : {B : Type 0} {p : ℕ × ℕ} {b u v : B} (r s : Result ℕ Refusal) → (answer_as r ≡ p) × (u ≡ b) → (answer_as s ≡ p) × (v ≡ b) → (r ≡ s) × (u ≡ v)
owed-one r s h k = (answer_as-one r s (h.0 ∙ sym k.0), h.1 ∙ sym k.1)

-- every changing call: its number and values, and so an answer that is known by them
module _ {w v u : List ℕ} {k : ℕ} {rs : State → List Rule} {f : State → SetState} where
  pub changed-same : {p q : ℕ × ℕ} → Changed w k rs f p v → Changed w k rs f q u → (p ≡ q) × (v ≡ u)
  changed-same h g = (h.answer ∙ sym g.answer, h.words ∙ sym g.words)

  pub changed-one : {r s : (Result ℕ Refusal)} → Changed w k rs f (answer_as r) v → Changed w k rs f (answer_as s) u → (r ≡ s) × (v ≡ u)
  changed-one {r = r} {s = s} h g = let x = changed-same h g in (answer_as-one r s x.0, x.1)
