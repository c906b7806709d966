-- The report of add and remove: of each return, what it comes to, and that one answer is allowed. Assumes nothing.
use mathlib.Core.Path.{◌≡◌, sym, ap, ◌∙◌}
use mathlib.Core.Bool.{Bool, false, ◌&&◌}
use mathlib.Core.List.{List}
use Prim.Native.Nat.{ℕ}
use lib.Dec.{eqb}
use borrow.Author.Tests.{ne_eqb}
use Rattle.nets.specs.Networks.{has_bit_past}
use Rattle.nets.specs.Refusals.{Rule, number}
use Rattle.nets.specs.declared.Net.{Net}
use Rattle.nets.specs.declared.Refusal.{Refusal}
use Rattle.nets.proofs.Answers.{number-one, number-some}
use Rattle.pool_state.specs.States.{SetState, State}
use Rattle.pool_state.specs.Changes.{Changed}
use Rattle.pool_state.proofs.Determined.{changed-same}
use Rattle.change.specs.Calls.{noted_as, Reports}
use Rattle.std.specs.Prelude.{Result, Ok, Err}

module _ {n : Net} {C : ℕ × ℕ → List ℕ → Type 0} {v : List ℕ} where
  -- the returns
  pub reports-refused : (x : Refusal) → C (number x, 0) v → Reports n C (number x, (0, false)) v
  reports-refused x h = record { changed = h; report = rw (ne_eqb _ _ (number-some x)) }

  pub reports-granted : {m : ℕ} {b : Bool} → b ≡ has_bit_past n → C (0, m) v → Reports n C (0, (m, b)) v
  reports-granted e h = record { changed = h; report = e }

  -- a refusal reports no, and what is granted reports whether a bit was cut
  module _ {r : ℕ × (ℕ × Bool)} (h : Reports n C r v) where
    pub refused-reports : (r.0 ≡ 0 → ⊥) → r.1.1 ≡ false
    refused-reports ne = h.report ∙ rw (ne_eqb _ _ ne)

    pub granted-reports : r.0 ≡ 0 → r.1.1 ≡ has_bit_past n
    granted-reports z = h.report ∙ rw z

-- One answer.
pub noted_as-one : (r s : Result (ℕ × Bool) Refusal) → noted_as r ≡ noted_as s → r ≡ s
noted_as-one (Ok (a, b)) (Ok (c, d)) e = let p : a ≡ c = ap (λ x. x.1.0) e in let q : b ≡ d = ap (λ x. x.1.1) e in cc
noted_as-one (Ok (a, b)) (Err y) e = absurd (number-some y (sym (ap (λ p. p.0) e)))
noted_as-one (Err x) (Ok (c, d)) e = absurd (number-some x (ap (λ p. p.0) e))
noted_as-one (Err x) (Err y) e = ap Err (number-one x y (ap (λ p. p.0) e))

-- two answers with one number and one count have one report
reported-same : (t : Bool) (p q : ℕ × (ℕ × Bool)) → ◌≡◌ {A = ℕ × ℕ} (p.0, p.1.0) (q.0, q.1.0) → p.1.1 ≡ (eqb p.0 0 && t) → q.1.1 ≡ (eqb q.0 0 && t) → p ≡ q
reported-same t (a, (m, b)) (c, (k, d)) e g h = let x : a ≡ c = ap (λ p. p.0) e in let y : m ≡ k = ap (λ p. p.1) e in let z : b ≡ d = g ∙ rw x (sym h) in cc

module _ {n : Net} {w v u : List ℕ} {k : ℕ} {rs : State → List Rule} {f : State → SetState} where
  pub reports-same : {p q : ℕ × (ℕ × Bool)} → Reports n (Changed w k rs f) p v → Reports n (Changed w k rs f) q u → (p ≡ q) × (v ≡ u)
  reports-same {p} {q} h g = let x = changed-same h.changed g.changed in (reported-same (has_bit_past n) p q x.0 h.report g.report, x.1)

  pub reports-one : {r s : (Result (ℕ × Bool) Refusal)} → Reports n (Changed w k rs f) (noted_as r) v → Reports n (Changed w k rs f) (noted_as s) u → (r ≡ s) × (v ≡ u)
  reports-one {r} {s} h g = let x = reports-same h g in (noted_as-one r s x.0, x.1)
