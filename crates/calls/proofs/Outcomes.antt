-- A run has one outcome, and it has ended: where it stands no call is left, or the next one is not done.
use mathlib.Core.Bool.{Bool, true, false, cond}
use mathlib.Core.List.{List}
use mathlib.Core.Path.{◌≡◌, refl, sym, ap, ◌∙◌}
use Prim.Native.Nat.{ℕ, zero, suc, ◌+◌, ◌-◌, ◌*◌, ◌≤◌}
use native.Mathlib.Omega.{arith}
use lib.Dec.{eqb}
use lib.ListN.{length}
use borrow.Author.Tests.{eqb-true, eqb-false}
use Rattle.calls_kinds.specs.Places.{stop_number}
use Rattle.calls_kinds.specs.declared.places.Stop.{Stop}
use Rattle.calls_kinds.specs.declared.places.Stop.TheVariants as stop
use Rattle.calls_kinds.proofs.Judged.{stop_at-whole}
use Rattle.calls.specs.Runs.{Machine, machine, stops_at, step_of, run_from, run_of, Ran, RunsTo}
use Rattle.calls.specs.declared.running.Ended.{Ended}
use Rattle.calls.proofs.Turns.{run_on, run-stop}

pub run-determined : {w v b o w₁ v₁ o₁ w₂ v₂ o₂ : List ℕ} {r s : ℕ} → RunsTo w v b o r w₁ v₁ o₁ → RunsTo w v b o s w₂ v₂ o₂ → (r ≡ s) × ((w₁ ≡ w₂) × ((v₁ ≡ v₂) × (o₁ ≡ o₂)))
run-determined p q = (p.answer ∙ sym q.answer, (p.words ∙ sym q.words, (p.rows ∙ sym q.rows, p.out ∙ sym q.out)))

-- a reason by its number
named : ℕ → Stop
named n = cond (eqb n 0) stop.Whole (cond (eqb n 1) stop.Cut (cond (eqb n 2) stop.Unknown (cond (eqb n 3) stop.Full stop.Rows)))

named-number : (s : Stop) → named (stop_number s) ≡ s
unfolding named
named-number stop.Whole = refl
named-number stop.Cut = refl
named-number stop.Unknown = refl
named-number stop.Full = refl
named-number stop.Rows = refl

stop-one : (s t : Stop) → stop_number s ≡ stop_number t → s ≡ t
stop-one s t e = sym (named-number s) ∙ (ap named e ∙ named-number t)

ended-one : {r s : Ended} → r.why ≡ s.why → r.done ≡ s.done → r.to ≡ s.to → r ≡ s
ended-one {r} {s} x y z =
    let ended : Stop → ℕ → ℕ → Ended = λ a b c. record { why = a; done = b; to = c } in
    ap (λ a. ended a r.done r.to) x ∙ ap (λ b. ended s.why b r.to) y ∙ ap (λ c. ended s.why s.done c) z

-- and so has `run`, which answers why it ended, how many calls were done and how many bytes their answers have
pub ran-determined : {w v b o w₁ v₁ o₁ w₂ v₂ o₂ : List ℕ} {r s : Ended} → Ran w v b o r w₁ v₁ o₁ → Ran w v b o s w₂ v₂ o₂ → (r ≡ s) × ((w₁ ≡ w₂) × ((v₁ ≡ v₂) × (o₁ ≡ o₂)))
ran-determined {r = r} {s = s} p q =
    let e = ended-one (stop-one r.why s.why (p.why ∙ sym q.why)) (p.done ∙ sym q.done) (p.to ∙ sym q.to) in
    (e, (p.words ∙ sym q.words, (p.rows ∙ sym q.rows, p.out ∙ sym q.out)))

turn-case : (n : ℕ) (b : List ℕ) (m : Machine) (t : Bool) → eqb (stops_at b m) 5 ≡ t → (stops_at b (run_from n b (step_of b m)) ≡ 5 → ⊥) → stops_at b (run_from (suc n) b m) ≡ 5 → ⊥
turn-case n b m true q ih e = ih (rw (run_on b m (suc n) n refl (eqb-true _ _ q)) at e)
turn-case n b m false q ih e = eqb-false _ _ q (rw (run-stop b m (suc n) (eqb-false _ _ q)) at e)

turns : (n : ℕ) (b : List ℕ) (m : Machine) → length b ≤ m.at + 35 * n → stops_at b (run_from n b m) ≡ 5 → ⊥
unfolding run_from step_of
turns zero b m h e = let z : ◌≡◌ {A = ℕ} 0 5 = sym (stop_at-whole b m.at (length m.rows) (length m.out - m.to) (omega arith)) ∙ e in omega arith
turns (suc n) b m h e = turn-case n b m (eqb (stops_at b m) 5) refl (turns n b (step_of b m) (omega arith)) e

-- as many turns as there are bytes are enough
pub run_ends : (w v b o : List ℕ) → stops_at b (run_of w v b o) ≡ 5 → ⊥
unfolding run_of
run_ends w v b o = turns (length b) b (machine w v o 0 0 0) (omega arith)
