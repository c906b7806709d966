-- What the calls with a network answer. What they leave is said in change_ask.
--
--   list_with, list_without, Added, Removed    those of change_ask
--   noted_as a                                the number and the values of what such a call answers, the report behind the nodes
--   Reports n C r v                          r is the answer of the call C, and reports: it is granted, and a set bit past the length of n was cut
use Rattle.std.specs.Prelude.{Bool, false, ◌&&◌, List, ◌≡◌, ℕ, eqb, Result, Ok, Err}
use Rattle.nets.specs.Networks.{has_bit_past}
use Rattle.nets.specs.Refusals.{number}
use Rattle.nets.specs.declared.Net.{Net}
pub use Rattle.change_ask.specs.Calls.{list_with, list_without, Added, Removed}
use Rattle.nets.specs.declared.Refusal.{Refusal}

-- the number and the values of an answer: the nodes of the set, and the report. A refusal has its number and zeros
abbrev pub noted_as : Result (ℕ × Bool) Refusal → ℕ × (ℕ × Bool)
noted_as (Ok (m, b)) = (0, (m, b))
noted_as (Err x) = (number x, (0, false))

pub record Reports (n : Net) (C : ℕ × ℕ → List ℕ → Type 0) (r : ℕ × (ℕ × Bool)) (v : List ℕ) : Type 0 where
  pub changed : C (r.0, r.1.0) v
  pub report : r.1.1 ≡ (eqb r.0 0 && has_bit_past n)
