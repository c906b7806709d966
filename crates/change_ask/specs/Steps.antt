-- What the calls with a network find first.
--
--   Ready w k n v s      the call goes on: v is what a pass over the pool found, and s hands out the bits of n
--   Asks w k n x         it goes on, or x is the refusal of every call with n on set k
use Rattle.std.specs.Prelude.{◌≡◌, List, ℕ, ◌≤◌, Result, Ok, Err}
use Rattle.nets.specs.Bits.{Bits}
use Rattle.nets.specs.Networks.{net_bits, bits_left}
use Rattle.nets.specs.Refusals.{number, first_no}
use Rattle.nets.specs.declared.Net.{Net}
use Rattle.nets.specs.declared.PrefixBits.{PrefixBits}
use Rattle.pool_state.specs.States.{State}
use Rattle.pool_state.specs.Decode.{sound, decode}
use Rattle.pool_state.specs.Changes.{Relisted, net_rules}
use Rattle.pool_state.specs.Steps.{Surveyed}
use Rattle.pool_state.specs.declared.Survey.{Survey}
use Rattle.nets.specs.declared.Refusal.{Refusal}

pub record Ready (w : List ℕ) (k : ℕ) (n : Net) (v : Survey) (s : PrefixBits) : Type 0 where
  pub surveyed : Surveyed w k v
  pub right : (S : State) → decode w ≡ sound S → first_no (net_rules n S) ≡ 0
  pub bits : bits_left s ≡ net_bits n
  pub few : s.len ≤ 128

abbrev pub Asks : List ℕ → ℕ → Net → Result (Survey × PrefixBits) Refusal → Type 0
Asks w k n (Ok (v, s)) = Ready w k n v s
Asks w k n (Err x) = (f : State → List Bits) → Relisted w k (net_rules n) f (number x, 0) w
