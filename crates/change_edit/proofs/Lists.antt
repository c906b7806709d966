-- The list with the network is one, and that without it. Assumes nothing.
use mathlib.Core.Path.{◌≡◌}
use mathlib.Core.Bool.{Bool, true, false}
use Prim.Native.Nat.{ℕ}
use Rattle.nets.specs.Lists.{is_list}
use Rattle.nets.specs.Networks.{width, net_bits}
use Rattle.nets.specs.Refusals.{first_no}
use Rattle.nets.specs.declared.Net.{Net}
use Rattle.nets.proofs.TrieOf.{is_list-add}
use Rattle.nets.proofs.Laws.{is_list-remove}
use Rattle.pool_state.specs.States.{State, is_state}
use Rattle.pool_state.specs.Changes.{list_at, net_rules}
use Rattle.pool_state.proofs.Claims.{is_list-list_at}
use Rattle.pool_state.proofs.Leaves.{net_rules-within}
use Rattle.change_ask.specs.Calls.{list_with, list_without}
use Rattle.change_edit.specs.Steps.{list_by}

pub add-list : (n : Net) (S : State) (k : ℕ) → is_state S ≡ true → first_no (net_rules n S) ≡ 0 → is_list (width S.family) (list_with k n S) ≡ true
add-list n S k e z = is_list-add (width S.family) (list_at S k) (net_bits n) (is_list-list_at S k e) (net_rules-within n S z)

pub remove-list : (n : Net) (S : State) (k : ℕ) → is_state S ≡ true → first_no (net_rules n S) ≡ 0 → is_list (width S.family) (list_without k n S) ≡ true
remove-list n S k e z = is_list-remove (width S.family) (list_at S k) (net_bits n) (is_list-list_at S k e) (net_rules-within n S z)

pub by-list : (x : Bool) (n : Net) (S : State) (k : ℕ) → is_state S ≡ true → first_no (net_rules n S) ≡ 0 → is_list (width S.family) (list_by x k n S) ≡ true
by-list true = add-list
by-list false = remove-list
