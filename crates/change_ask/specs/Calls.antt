-- The calls with a network.
--
--   list_with k n S, list_without      the list of set k with the network n added, and with n removed
--   Added w k n r v, Removed         from the words w the call with the network n on set k answers r and leaves the words v
use Rattle.std.specs.Prelude.{List, ℕ}
use Rattle.nets.specs.Bits.{Bits}
use Rattle.nets.specs.Lists.{add_l, remove_l}
use Rattle.nets.specs.Networks.{net_bits}
use Rattle.nets.specs.declared.Net.{Net}
use Rattle.pool_state.specs.States.{State}
use Rattle.pool_state.specs.Changes.{list_at, Relisted, net_rules}

abbrev pub list_with : ℕ → Net → State → List Bits
list_with k n S = add_l (list_at S k) (net_bits n)

abbrev pub list_without : ℕ → Net → State → List Bits
list_without k n S = remove_l (list_at S k) (net_bits n)

abbrev pub Added : List ℕ → ℕ → Net → ℕ × ℕ → List ℕ → Type 0
Added w k n r v = Relisted w k (net_rules n) (list_with k n) r v

abbrev pub Removed : List ℕ → ℕ → Net → ℕ × ℕ → List ℕ → Type 0
Removed w k n r v = Relisted w k (net_rules n) (list_without k n) r v
