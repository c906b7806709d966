-- The first of the rules that applies decides the number. Assumes nothing.
use mathlib.Core.Bool.{Bool, true, false, cond}
use mathlib.Core.List.{List, [], ◌∷◌, ◌++◌}
use mathlib.Core.Path.{◌≡◌, refl}
use Prim.Native.Nat.{ℕ, ◌≤◌}
use native.Mathlib.Omega.{arith}
use lib.Dec.{eqb}
use borrow.Author.Tests.{ne_eqb}
use Rattle.nets.specs.Refusals.{number, Rule, first_no}
use Rattle.nets.specs.declared.Refusal.{Refusal}
use Rattle.nets.proofs.Answers.{number-some}

-- no rule applies
abbrev pub Clear : List Rule → Type 0
Clear [] = Unit
Clear (r ∷ rs) = (r.0 ≡ false) × Clear rs

pub first_no-clear : (rs : List Rule) → Clear rs → first_no rs ≡ 0
first_no-clear [] c = refl
first_no-clear ((b, x) ∷ rs) c = rw c.0 (first_no-clear rs c.1)

pub first_no-first : (rs ss : List Rule) (x : Refusal) → Clear rs → first_no (rs ++ ((true, x) ∷ ss)) ≡ number x
first_no-first [] ss x c = refl
first_no-first ((b, y) ∷ rs) ss x c = rw c.0 (first_no-first rs ss x c.1)

-- 0 only where none applies
pub first_no-zero : (rs : List Rule) → first_no rs ≡ 0 → Clear rs
first_no-zero [] e = tt
first_no-zero ((false, x) ∷ rs) e = (refl, first_no-zero rs e)
first_no-zero ((true, x) ∷ rs) e = absurd (number-some x e)

-- the rules behind others count where none of those applies
pub first_no-append : (rs ss : List Rule) → first_no (rs ++ ss) ≡ cond (eqb (first_no rs) 0) (first_no ss) (first_no rs)
first_no-append [] ss = refl
first_no-append ((false, x) ∷ rs) ss = first_no-append rs ss
first_no-append ((true, x) ∷ rs) ss = rw (ne_eqb (number x) 0 (number-some x))

pub first_no-both : (rs ss : List Rule) → first_no (rs ++ ss) ≡ 0 → (first_no rs ≡ 0) × (first_no ss ≡ 0)
first_no-both [] ss e = (refl, e)
first_no-both ((false, x) ∷ rs) ss e = first_no-both rs ss e
first_no-both ((true, x) ∷ rs) ss e = absurd (number-some x e)

-- the number is no larger than those of the refusals
abbrev pub Few : ℕ → List Rule → Type 0
Few m [] = Unit
Few m (r ∷ rs) = (number r.1 ≤ m) × Few m rs

pub first_no-few : (m : ℕ) (rs : List Rule) → Few m rs → first_no rs ≤ m
first_no-few m [] f = omega arith
first_no-few m ((false, x) ∷ rs) f = first_no-few m rs f.1
first_no-few m ((true, x) ∷ rs) f = f.0
