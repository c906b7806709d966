-- Adding to a set that is found: what becomes of a result that is counted and judged, and that a pass over the words afterwards finds what is handed back. Assumes
-- nothing.
use mathlib.Core.Path.{◌≡◌, refl, sym, ap, ◌∙◌}
use mathlib.Core.Bool.{Bool, true}
use mathlib.Core.List.{List, [], ◌∷◌}
use Prim.Native.Nat.{ℕ}
use Rattle.nets.specs.Lists.{add_l}
use Rattle.nets.specs.Networks.{net_bits}
use Rattle.nets.specs.declared.Net.{Net}
use Rattle.nets.specs.declared.Refusal.{Refusal}
use Rattle.nets.specs.declared.PrefixBits.{PrefixBits}
use Rattle.pool_state.specs.States.{State, admits}
use Rattle.pool_state.specs.Decode.{sound, decode}
use Rattle.pool_state.specs.Changes.{set_at, list_at, net_rules}
use Rattle.pool_state.specs.Steps.{Judges, Settled, survey_with}
use Rattle.pool_state.specs.declared.Survey.{Survey}
use Rattle.pool_state.proofs.Decoded.{decode-state}
use Rattle.change_ask.specs.Steps.{Ready}
use Rattle.change_add.specs.Steps.{Admits, Grows}
use Rattle.change_edit.specs.Steps.{Counts, Edited}
use Rattle.change_ask.proofs.Admitted.{admits-add}
use Rattle.change_edit.proofs.Lists.{add-list}
use Rattle.pool_state.specs.Rules.{share_in}
use Rattle.pool_state.proofs.Resurveyed.{resurveyed}
use Rattle.change_ask.specs.Calls.{list_with}
use Rattle.change_edit.proofs.Weighed.{Weighed, weighed-refused, weighed-granted}
use Rattle.std.specs.Prelude.{Result, Ok, Err}

-- what is added is clear exactly if the network is
pub clear-add : {w : List ℕ} {k : ℕ} {n : Net} {v : Survey} {s : PrefixBits} {c : Bool} → Ready w k n v s → Admits w k s c
    → (S : State) → decode w ≡ sound S → admits S.family (set_at S k) (add_l (list_at S k) (net_bits n)) ≡ c
clear-add {w} {k} h g S d = admits-add S k (decode-state w S d) _ ∙ ap (λ p. admits S.family (set_at S k) (p ∷ [])) (sym h.bits) ∙ sym (g S d)

pub weighed-add : {w : List ℕ} {k : ℕ} {n : Net} {v : Survey} {s : PrefixBits} {c : Bool} {m : ℕ} → Ready w k n v s → Admits w k s c → Counts w k true n m
    → Weighed true w k n v s c m
weighed-add h g q = record { ready = h; clear = clear-add h g; counts = q }

module _ {w : List ℕ} {k : ℕ} {n : Net} {v : Survey} {s : PrefixBits} {c : Bool} {m : ℕ} {r : (Result Unit Refusal)} (h : Weighed true w k n v s c m) (j : Judges w k c m r) where
  pub grow-refused : (x : Refusal) → r ≡ Err x → Grows w k n (Err x) w
  grow-refused x e = (weighed-refused h j x e, refl)

  pub grow-granted : r ≡ (Ok tt) → {f : Survey} {u y : List ℕ} → f ≡ survey_with (share_in w k) v m → Edited w k true n v u → Settled u k v.at v.held m y → Grows w k n (Ok f) y
  grow-granted z q e p =
      let c = weighed-granted h j z e p in
      rw q (c, resurveyed (net_rules n) (list_with k n) h.ready.surveyed (λ T d. add-list n T k (decode-state w T d)) c)
