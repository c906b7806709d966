-- Adding to a set that is found.
--
--   Admits w k s c       c says whether set k may have the network with the bits of s, as far as its mark goes
--   Grows w k n x u      the network n is added to set k of the words w, which leaves u, and x is what a pass over u finds; or x is the refusal, and u is w
use Rattle.std.specs.Prelude.{◌≡◌, Bool, List, [], ◌∷◌, ℕ, Result, Ok, Err}
use Rattle.nets.specs.Networks.{bits_left}
use Rattle.nets.specs.Refusals.{number}
use Rattle.nets.specs.declared.Net.{Net}
use Rattle.nets.specs.declared.PrefixBits.{PrefixBits}
use Rattle.pool_state.specs.States.{State, admits}
use Rattle.pool_state.specs.Decode.{sound, decode}
use Rattle.pool_state.specs.Changes.{set_at}
use Rattle.pool_state.specs.Steps.{Surveyed}
use Rattle.change_ask.specs.Calls.{Added}
use Rattle.nets.specs.declared.Refusal.{Refusal}
use Rattle.pool_state.specs.declared.Survey.{Survey}

abbrev pub Admits : List ℕ → ℕ → PrefixBits → Bool → Type 0
Admits w k s c = (S : State) → decode w ≡ sound S → c ≡ admits S.family (set_at S k) (bits_left s ∷ [])

abbrev pub Grows : List ℕ → ℕ → Net → Result Survey Refusal → List ℕ → Type 0
Grows w k n (Ok v) u = Added w k n (0, v.held) u × Surveyed u k v
Grows w k n (Err x) u = Added w k n (number x, 0) w × (u ≡ w)
