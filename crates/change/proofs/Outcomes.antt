-- What the contracts of add and remove come to: one outcome is allowed; and sound words stay sound, with the state that the rule says (`RelistLeaves`). Assumes nothing.
use mathlib.Core.Path.{◌≡◌}
use mathlib.Core.List.{List}
use Prim.Native.Nat.{ℕ}
use Rattle.nets.specs.declared.Net.{Net}
use Rattle.pool_state.specs.States.{State}
use Rattle.pool_state.specs.Decode.{sound, decode}
use Rattle.pool_state.specs.Changes.{net_rules}
use Rattle.pool_state.proofs.Decoded.{decode-state}
use Rattle.pool_state.proofs.Leaves.{RelistLeaves, relist-leaves}
use Rattle.change_ask.specs.Calls.{list_with, list_without, Added, Removed}
use Rattle.change.specs.Calls.{noted_as, Reports}
use Rattle.change_edit.proofs.Lists.{add-list, remove-list}
use Rattle.change.proofs.Reported.{reports-one}
use Rattle.std.specs.Prelude.{Result, Bool}
use Rattle.nets.specs.declared.Refusal.{Refusal}

-- One outcome.
pub add-one : {w v u : List ℕ} {k : ℕ} {r x : (Result (ℕ × Bool) Refusal)} (n : Net) → Reports n (Added w k n) (noted_as r) v → Reports n (Added w k n) (noted_as x) u → (r ≡ x) × (v ≡ u)
add-one n h g = reports-one h g

pub remove-one : {w v u : List ℕ} {k : ℕ} {r x : (Result (ℕ × Bool) Refusal)} (n : Net) → Reports n (Removed w k n) (noted_as r) v → Reports n (Removed w k n) (noted_as x) u → (r ≡ x) × (v ≡ u)
remove-one n h g = reports-one h g

-- What is left of a sound pool.
module _ {w v : List ℕ} {S : State} {k : ℕ} {r : ℕ × ℕ} (n : Net) (d : decode w ≡ sound S) where
  pub add-leaves : Added w k n r v → RelistLeaves w S k (net_rules n S) (list_with k n S) r v
  add-leaves c = relist-leaves (net_rules n) (list_with k n) d (add-list n S k (decode-state w S d)) c

  pub remove-leaves : Removed w k n r v → RelistLeaves w S k (net_rules n S) (list_without k n S) r v
  remove-leaves c = relist-leaves (net_rules n) (list_without k n) d (remove-list n S k (decode-state w S d)) c
