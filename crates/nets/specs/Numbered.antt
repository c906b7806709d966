-- The refusals from their numbers.
--
--   NamedBy n r     r is the refusal with the number n, or says that no refusal has it
use Rattle.std.specs.Prelude.{Result, Ok, Err, ◌≡◌, ℕ}
use Rattle.nets.specs.Refusals.{number}
use Rattle.nets.specs.declared.Refusal.{Refusal}
use Rattle.nets.specs.declared.NoSuchRefusal.{NoSuchRefusal}

abbrev pub NamedBy : ℕ → Result Refusal NoSuchRefusal → Type 0
NamedBy n (Ok r) = number r ≡ n
NamedBy n (Err e) = (r : Refusal) → number r ≡ n → ⊥
