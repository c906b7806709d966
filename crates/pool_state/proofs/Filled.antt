-- A call that fills a lent buffer from a set, said once for all of them: it is refused where the pool is damaged, has no such set or the buffer is too short, and then the buffer
-- stays; else it is filled. Assumes nothing.
use mathlib.Core.Path.{◌≡◌, refl, sym, ◌∙◌}
use mathlib.Core.List.{[], ◌∷◌}
use Prim.Native.Nat.{ℕ, ◌≤◌, ◌<◌}
use lib.ListN.{length}
use Rattle.nets.specs.Refusals.{number}
use Rattle.nets.specs.declared.Refusal.{Refusal}
use Rattle.nets.specs.declared.Refusal.TheVariants.{Damaged, NoSet, ShortBuffer}
use Rattle.nets.proofs.Answers.{number-some}
use Rattle.pool_state.specs.States.{State}
use Rattle.pool_state.specs.Decode.{Decoded, damaged, sound}
use Rattle.pool_state.specs.Rules.{answer_on, left_on, unknown, short, answer_as}
use Rattle.pool_state.specs.Steps.{Refuses}
use Rattle.pool_state.proofs.Answered.{Owes, owes-damaged, owes-refused, owes-granted, owes-seat, first_no-short, first_no-fits}
use Rattle.pool_state.proofs.Determined.{answer_as-one, owed-one}
use Rattle.std.specs.Prelude.{Result, Ok, Err}

-- from the buffer b of n entries a call on set k, which takes m of them, answers r, the number f where it is granted, and leaves c, what g makes of the buffer
pub record Filled {B : Type 0} (d : Decoded) (k n : ℕ) (m f : State → ℕ) (b : B) (g : State → B) (r : Result ℕ Refusal) (c : B) : Type 0 where
  pub answer : answer_as r ≡ answer_on d (λ S. unknown S k ∷ short (m S) n ∷ []) 0 f
  pub left : c ≡ left_on d (λ S. unknown S k ∷ short (m S) n ∷ []) b g

pub filled-one : {B : Type 0} {d : Decoded} {k n : ℕ} {m f : State → ℕ} {b : B} {g : State → B} {r s : (Result ℕ Refusal)} {c e : B}
    → Filled d k n m f b g r c → Filled d k n m f b g s e → (r ≡ s) × (c ≡ e)
filled-one {r = r} {s = s} h o = (answer_as-one r s (h.answer ∙ sym o.answer), h.left ∙ sym o.left)

-- The outcomes.
module _ {B : Type 0} {d : Decoded} {k n : ℕ} {m f : State → ℕ} {b : B} {g : State → B} {r : (Result ℕ Refusal)} {c : B} (h : Filled d k n m f b g r c) where
  pub filled-damaged : d ≡ damaged → (r ≡ Err Damaged) × (c ≡ b)
  filled-damaged e = owed-one r (Err Damaged) (h.answer, h.left) (owes-damaged _ 0 f b g e)

  module _ (S : State) (e : d ≡ sound S) where
    pub filled-noset : length S.sets ≤ k → (r ≡ Err NoSet) × (c ≡ b)
    filled-noset le = owed-one r (Err NoSet) (h.answer, h.left) (owes-seat _ 0 f b g d k (rw e (le, refl)))

    module _ (lt : k < length S.sets) where
      pub filled-short : n < m S → (r ≡ Err ShortBuffer) × (c ≡ b)
      filled-short less = owed-one r (Err ShortBuffer) (h.answer, h.left) (owes-refused _ 0 f b g e (first_no-short S k lt less) (number-some ShortBuffer))

      pub filled-whole : m S ≤ n → (r ≡ Ok (f S)) × (c ≡ g S)
      filled-whole le = owed-one r (Ok (f S)) (h.answer, h.left) (owes-granted _ 0 f b g e (first_no-fits S k lt le))

-- The returns, by the tests on the way to them.
module _ {B : Type 0} (d : Decoded) (k n : ℕ) (m f : State → ℕ) (b : B) (g : State → B) where
  owed : {r : (Result ℕ Refusal)} {c : B} → Owes d (λ S. unknown S k ∷ short (m S) n ∷ []) 0 f b g (answer_as r) c → Filled d k n m f b g r c
  owed h = record { answer = h.0; left = h.1 }

  pub fill-refused : (x : Refusal) → Refuses d k (number x) → Filled d k n m f b g (Err x) b
  fill-refused x e = owed (owes-seat _ 0 f b g d k e)

  module _ (S : State) (e : d ≡ sound S) (lt : k < length S.sets) where
    pub fill-short : n < m S → Filled d k n m f b g (Err ShortBuffer) b
    fill-short less = owed (owes-refused _ 0 f b g e (first_no-short S k lt less) (number-some ShortBuffer))

    pub fill-granted : m S ≤ n → Filled d k n m f b g (Ok (f S)) (g S)
    fill-granted le = owed (owes-granted _ 0 f b g e (first_no-fits S k lt le))
