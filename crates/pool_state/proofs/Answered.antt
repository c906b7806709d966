-- What a call answers and leaves, by the first of its rules that applies. A call whose first rule is that there is the set has no other say where the pool is damaged or has no such set (`Refuses`).
-- Assumes nothing.
use mathlib.Core.Path.{◌≡◌, refl, ap}
use mathlib.Core.List.{List, [], ◌∷◌}
use Prim.Native.Nat.{ℕ, ◌≤◌, ◌<◌}
use native.Mathlib.Omega.{arith}
use lib.Dec.{eqb}
use lib.ListN.{length}
use borrow.Author.Tests.{ltb-false, lt-ltb, le-ltb, le-leb, lt-leb, ne_eqb}
use Rattle.nets.specs.Refusals.{Rule, first_no}
use Rattle.nets.proofs.Strings.{cond_both}
use Rattle.nets.proofs.Answers.{answered-granted}
use Rattle.nets.proofs.Refused.{first_no-zero}
use Rattle.pool_state.specs.States.{State}
use Rattle.pool_state.specs.Decode.{Decoded, damaged, sound}
use Rattle.pool_state.specs.Rules.{answer_on, left_on, unknown, short}
use Rattle.pool_state.specs.Steps.{Refuses}

-- what a call owes: its answer r, and what it leaves, c
abbrev pub Owes : {A B : Type 0} → Decoded → (State → List Rule) → A → (State → A) → B → (State → B) → ℕ × A → B → Type 0
Owes d rs z f b g r c = (r ≡ answer_on d rs z f) × (c ≡ left_on d rs b g)

module _ {A B : Type 0} (rs : State → List Rule) (z : A) (f : State → A) (b : B) (g : State → B) {d : Decoded} where
  pub owes-damaged : d ≡ damaged → Owes d rs z f b g (2, z) b
  unfolding answer_on left_on
  owes-damaged e = rw e (refl, refl)

  module _ {S : State} (e : d ≡ sound S) where
    pub owes-refused : {x : ℕ} → first_no (rs S) ≡ x → (x ≡ 0 → ⊥) → Owes d rs z f b g (x, z) b
    unfolding answer_on left_on
    owes-refused {x} q ne = rw (e, q, ne_eqb x 0 ne) (refl, refl)

    pub owes-granted : first_no (rs S) ≡ 0 → Owes d rs z f b g (0, f S) (g S)
    unfolding answer_on left_on
    owes-granted q = rw (e, q) (refl, refl)

pub owes-seat : {A B : Type 0} (rs : State → List Rule) (z : A) (f : State → A) (b : B) (g : State → B) (d : Decoded) (k : ℕ) {x : ℕ}
    → Refuses d k x → Owes d (λ S. unknown S k ∷ rs S) z f b g (x, z) b
unfolding answer_on left_on
owes-seat rs z f b g damaged k h = (ap (λ y. (y, z)) h, refl)
owes-seat rs z f b g (sound S) k h = rw (h.1, le-leb (length S.sets) k h.0) (refl, refl)

-- The rules that there is the set, and that the buffer is large enough.
module _ (S : State) (k : ℕ) {m n : ℕ} (known : k < length S.sets) where
  pub first_no-short : n < m → first_no (unknown S k ∷ short m n ∷ []) ≡ 11
  first_no-short lt = rw (lt-leb (length S.sets) k known, lt-ltb n m lt)

  pub first_no-fits : m ≤ n → first_no (unknown S k ∷ short m n ∷ []) ≡ 0
  first_no-fits le = rw (lt-leb (length S.sets) k known, le-ltb n m le)

-- What an answer says back: a granted one is of a state to which no rule applies, and a refusal leaves all as it was.
module _ {A B : Type 0} (rs : State → List Rule) (z : A) (f : State → A) (b : B) (g : State → B) where
  pub answer_on-granted : (d : Decoded) (v : A) → (0, v) ≡ answer_on d rs z f → (S : State) × (d ≡ sound S) × (first_no (rs S) ≡ 0) × (v ≡ f S)
  unfolding answer_on
  answer_on-granted damaged v e = let x : ◌≡◌ {A = ℕ} 0 2 = ap (λ p. p.0) e in absurd (omega arith)
  answer_on-granted (sound S) v e = let h = answered-granted (first_no (rs S)) z (f S) v e in (S, refl, h.0, h.1)

  pub left_on-refused : (d : Decoded) → ((answer_on d rs z f).0 ≡ 0 → ⊥) → left_on d rs b g ≡ b
  unfolding answer_on left_on
  left_on-refused damaged ne = refl
  left_on-refused (sound S) ne = rw (ne_eqb (first_no (rs S)) 0 ne)

pub left_on-either : {B : Type 0} (P : B → Type 0) (rs : State → List Rule) (b : B) (g : State → B) (d : Decoded) → P b → ((S : State) → P (g S)) → P (left_on d rs b g)
unfolding left_on
left_on-either P rs b g damaged h k = h
left_on-either P rs b g (sound S) h k = cond_both P (eqb (first_no (rs S)) 0) (g S) b (k S) h

-- a call with room for what it answers
pub answer_on-fits : (k n : ℕ) (m : State → ℕ) {A : Type 0} (z : A) (f : State → A) (d : Decoded) (v : A) → (0, v) ≡ answer_on d (λ S. unknown S k ∷ short (m S) n ∷ []) z f
    → (S : State) × (v ≡ f S) × (m S ≤ n)
answer_on-fits k n m z f d v e =
    let (S, o, q, i) = answer_on-granted (λ S. unknown S k ∷ short (m S) n ∷ []) z f d (λ S. d) d v e in
    (S, i, ltb-false n (m S) (first_no-zero (unknown S k ∷ short (m S) n ∷ []) q).1.0)
