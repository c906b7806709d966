-- A change needs no second pass over the pool: what a pass would find after any granted call is what it found before, with the nodes of the result in place of the
-- set's. Assumes nothing.
use mathlib.Core.Path.{◌≡◌, refl, sym, ap, ◌∙◌}
use mathlib.Core.Bool.{true, cond}
use mathlib.Core.List.{List, [], ◌∷◌}
use Prim.Native.Nat.{ℕ, zero, suc, ◌+◌, ◌-◌, max}
use native.Mathlib.Omega.{arith}
use lib.Dec.{eqb}
use lib.ListN.{length, get_or}
use Rattle.nets.specs.Bits.{Bits}
use Rattle.nets.specs.Lists.{is_list}
use Rattle.nets.specs.Networks.{width}
use Rattle.nets.specs.Refusals.{Rule, first_no}
use Rattle.pool_state.specs.Kept.{held_l}
use Rattle.pool_state.specs.States.{SetState, State, held, used, claimed}
use Rattle.pool_state.specs.Decode.{sound, decode}
use Rattle.pool_state.specs.Rules.{share_in, first_node, survey_of, found_of}
use Rattle.pool_state.specs.Changes.{set_at, sets_with, with_set, set_with, change_rules, change_rule, relist_rules, relist_set, relist_no, Relisted}
use Rattle.pool_state.specs.Steps.{Surveyed, survey_with}
use Rattle.pool_state.specs.declared.Survey.{Survey}
use Rattle.pool_state.proofs.Kept.{held_l-nil}
use Rattle.pool_state.proofs.Answered.{answer_on-granted}
use Rattle.pool_state.proofs.Claims.{claimed_but-is}
use Rattle.pool_state.proofs.Decoded.{decode-header, decode-share}
use Rattle.pool_state.proofs.Leaves.{relist-leaves}
use Rattle.pool_state.proofs.Seen.{Seen, seen_as}
use Rattle.pool_state.proofs.WithSet.{used-sets_with, claimed-sets_with, with_set-length, with_set-at}
use Rattle.std.specs.Prelude.{Some}

first_node-sets_with : (k i : ℕ) (x : SetState) (ss : List SetState) → first_node k i (sets_with k x ss) ≡ first_node k i ss
first_node-sets_with k i x [] = refl
first_node-sets_with zero i x (s ∷ ss) = refl
first_node-sets_with (suc k) i x (s ∷ ss) = first_node-sets_with k (i + held s) x ss

module _ {w : List ℕ} {S : State} {k : ℕ} {v : Survey} (h : Seen w S k v) (l : List Bits) where
  abbrev new : SetState
  new = set_with (set_at S k) l

  used-with : used (with_set S k new).sets ≡ v.used - v.held + held_l (set_at S k).form l
  unfolding with_set
  used-with = omega (arith, used-sets_with k new S.sets h.known, used-sets_with k (set_with (set_at S k) []) S.sets h.known, held_l-nil (set_at S k).form, h.used, h.held)

  claimed-with : claimed (with_set S k new).sets ≡ v.claimed - max (set_at S k).share v.held + max (set_at S k).share (held_l (set_at S k).form l)
  unfolding with_set
  claimed-with = omega (arith, claimed-sets_with k new S.sets h.known, claimed_but-is k S.sets h.known, h.claimed, h.held)

  at_with : first_node k 1 (with_set S k new).sets ≡ v.at
  unfolding with_set
  at_with = first_node-sets_with k 1 new S.sets ∙ sym h.at

  pub survey-with : survey_with (set_at S k).share v (held_l (set_at S k).form l) ≡ survey_of (sound (with_set S k new)) k
  unfolding survey_of
  survey-with = rw (used-with, claimed-with, at_with, with_set-at S k new h.known)

-- What is left by a call that is granted n nodes.
module _ (a : State → List Rule) (f : State → List Bits) {w u : List ℕ} {k : ℕ} {v : Survey} {n : ℕ} (h : Surveyed w k v)
    (i : (S : State) → decode w ≡ sound S → first_no (a S) ≡ 0 → is_list (width S.family) (f S) ≡ true) (c : Relisted w k a f (0, n) u) where
  of-state : (S : State) → decode w ≡ sound S → relist_no S k (a S) (f S) ≡ 0 → n ≡ held_l (set_at S k).form (f S) → Surveyed u k (survey_with (share_in w k) v n)
  unfolding found_of
  of-state S d z e =
      let s = seen_as h S d in
      let T = with_set S k (set_with (set_at S k) (f S)) in
      let o : decode u ≡ sound T = (relist-leaves a f d (i S d) c).leaves.holds ∙ ap (λ m. sound (cond (eqb m 0) T S)) z in
      let q : get_or u 2 0 ≡ length T.sets = (decode-header u T o).sets in
      record {
        found = rw (o, decode-share w S d k s.known, e) (ap Some (survey-with s (f S)));
        known = omega (arith, with_set-length S k (set_with (set_at S k) (f S)), s.known);
      }

  pub resurveyed : Surveyed u k (survey_with (share_in w k) v n)
  unfolding change_rule relist_rules relist_set
  resurveyed =
      let (S, d, z, e) = answer_on-granted (λ T. change_rules T k (relist_rules k a f T)) 0 (λ T. held_l (set_at T k).form (f T)) w (λ T. w) (decode w) n c.answer in
      of-state S d z e
