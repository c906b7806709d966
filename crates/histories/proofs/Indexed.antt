-- The first-byte index over histories: which sets have one is settled at layout, after every step each is that of its set's list, and no answer to a lookup shows whether there is one.
-- Assumes nothing.
use mathlib.Core.Bool.{true, cond}
use mathlib.Core.List.{List, [], ◌∷◌}
use mathlib.Core.Path.{◌≡◌, refl, ap, ◌∙◌}
use Prim.Native.Nat.{ℕ, ◌+◌, ◌*◌, ◌<◌}
use native.Mathlib.Nat.{zero-add}
use lib.Dec.{leb}
use lib.ListN.{length, take}
use Rattle.nets.specs.declared.Net.{Net}
use Rattle.nodes.specs.Words.{Has}
use Rattle.pool_state.specs.Kept.{index_l}
use Rattle.pool_state.specs.States.{State, indexed_of}
use Rattle.pool_state.specs.Decode.{indexes_at, sound, decode}
use Rattle.pool_state.specs.Changes.{set_at, list_at}
use Rattle.pool_state.proofs.Indexed.{indexes-at}
use Rattle.pool_state.proofs.Whole.{decode-whole}
use Rattle.lookup.specs.Rules.{supernet_rule, contains_rule}
use Rattle.histories.specs.Calls.{Call}
use Rattle.histories.specs.Histories.{state_from, History, SameList}
use Rattle.histories.proofs.Step.{state_after-indexed}
use Rattle.histories.proofs.Histories.{history-sound}
use Rattle.histories.proofs.SameReadings.{same-supernet, same-contains}

pub index_stays : (S : State) (cs : List Call) (k : ℕ) → (set_at (state_from S cs) k).indexed ≡ (set_at S k).indexed
unfolding state_from
index_stays S [] k = refl
index_stays S (c ∷ cs) k = state_after-indexed (state_from S cs) c k ∙ index_stays S cs k

-- "Changing calls keep it right in the same call."
pub index-right : {w : List ℕ} {S : State} → decode w ≡ sound S → {cs : List Call} {rs : List (ℕ × ℕ)} {v : List ℕ} → History w cs rs v
    → (k : ℕ) → k < length (state_from S cs).sets → (set_at S k).indexed ≡ true
    → Has v (indexes_at (state_from S cs) + 256 * indexed_of (take k (state_from S cs).sets)) (index_l (list_at (state_from S cs) k))
index-right {S = S} d {cs} {v = v} h k lt e =
    let T = state_from S cs in
    let i = indexes-at v (indexes_at T) k 0 0 T.sets lt (decode-whole v T (history-sound d h)).indexes in
    let g = ap (λ c. cond c (index_l (list_at T k)) []) (index_stays S cs k ∙ e) in
    rw (zero-add (indexed_of (take k T.sets)), g) at i

-- "Answers equal those without the index on every sound pool": they are the same wherever two sound pools agree on the family, on the form, on whether there is the set, and on its list.
module _ (w v : List ℕ) {S T : State} (d : decode w ≡ sound S) (e : decode v ≡ sound T) (k : ℕ) (family : S.family ≡ T.family) (form : S.form ≡ T.form)
    (known : leb (length S.sets) k ≡ leb (length T.sets) k) (list : list_at S k ≡ list_at T k) where
  lists : SameList k S T
  lists = record { family = family; known = known; list = list }

  pub index-unseen : (n : Net) → supernet_rule w k n ≡ supernet_rule v k n
  index-unseen n = same-supernet w v d e lists form n

  pub index-unheard : (n : Net) → contains_rule w k n ≡ contains_rule v k n
  index-unheard n = same-contains w v d e lists form n
