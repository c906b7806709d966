-- A law for each return of `make_public`, by the tests on the way to it. Assumes nothing.
use mathlib.Core.Path.{◌≡◌, sym, ◌∙◌}
use mathlib.Core.List.{List}
use Prim.Native.Nat.{ℕ, ◌+◌}
use lib.ListN.{set}
use Rattle.nets.specs.Refusals.{number}
use Rattle.nets.specs.declared.Refusal.{Refusal}
use Rattle.nets.specs.declared.Refusal.TheVariants.{Occupied}
use Rattle.nets.proofs.Answers.{number-some}
use Rattle.nodes.proofs.Put.{set-put}
use Rattle.pool_state.specs.States.{State}
use Rattle.pool_state.specs.Decode.{record_at, over, decode}
use Rattle.pool_state.specs.Changes.{set_at, list_at, with_set, change_no, change_rule, words_after, marked, mark_rules, Marked}
use Rattle.pool_state.specs.Steps.{Refuses}
use Rattle.pool_state.specs.declared.Survey.{Survey}
use Rattle.pool_state.proofs.Answered.{owes-granted}
use Rattle.pool_state.proofs.Judged.{change_no-known}
use Rattle.pool_state.proofs.Restated.{over-marked}
use Rattle.pool_state.proofs.Returns.{is_empty-some, refused, seat, changed}
use Rattle.pool_state.proofs.Seen.{Seen, seen-empty, seen-some}

module _ {w : List ℕ} {k : ℕ} where
  pub mark-seat : (r : Refusal) → Refuses (decode w) k (number r) → Marked w k (number r, 0) w
  mark-seat r h = changed (seat (mark_rules k) (λ S. marked (set_at S k)) w k h)

  module _ {S : State} {v : Survey} (h : Seen w S k v) where
    pub mark-occupied : (v.held ≡ 0 → ⊥) → Marked w k (number Occupied, 0) w
    unfolding mark_rules
    mark-occupied ne =
        let e : change_no S k (mark_rules k S) ≡ 8 = change_no-known S k (mark_rules k S) h.known ∙ rw (is_empty-some (list_at S k) (seen-some h ne)) in
        changed (refused (mark_rules k) (λ T. marked (set_at T k)) w S k h.decoded e (number-some Occupied))

    pub mark-granted : {u : List ℕ} → v.held ≡ 0 → u ≡ set w (record_at k + 3) 1 → Marked w k (0, v.held) u
    unfolding change_rule words_after mark_rules
    mark-granted {u} z q =
        let l = seen-empty h z in
        let o : u ≡ over w (with_set S k (marked (set_at S k))) = q ∙ set-put w (record_at k + 3) 1 ∙ sym (over-marked w S k h.decoded h.known) in
        rw (o, h.held) (changed (owes-granted _ 0 _ w _ h.decoded (change_no-known S k (mark_rules k S) h.known ∙ rw l)))
