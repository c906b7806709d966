-- A law for each return of `replan`, and for each of `may_plan`, by the tests on the way to it. Assumes nothing.
use mathlib.Core.Path.{◌≡◌, sym, ◌∙◌}
use mathlib.Core.Bool.{Bool, true, false, not}
use mathlib.Core.List.{List, [], ◌∷◌}
use Prim.Native.Nat.{ℕ, ◌+◌, ◌≤◌, ◌<◌}
use native.Mathlib.Omega.{arith}
use lib.Dec.{leb}
use lib.ListN.{set}
use borrow.Author.Tests.{leb-true, le-leb, lt-leb}
use Rattle.nets.specs.Refusals.{number, first_no}
use Rattle.nets.specs.declared.Refusal.{Refusal}
use Rattle.nets.specs.declared.Refusal.TheVariants.{BadShare}
use Rattle.nets.proofs.Answers.{number-some}
use Rattle.nets.proofs.Strings.{bool_iff}
use Rattle.nodes.specs.Words.{put}
use Rattle.nodes.proofs.Put.{set-put, put-behind-at}
use Rattle.pool_state.specs.States.{State, held, claim, room_of}
use Rattle.pool_state.specs.Decode.{record_at, over, decode}
use Rattle.pool_state.specs.Changes.{set_at, with_set, fits, change_no, change_rule, words_after, planned, plan_rules, Replanned}
use Rattle.pool_state.specs.Steps.{Refuses}
use Rattle.pool_state.specs.declared.Survey.{Survey}
use Rattle.pool_state.proofs.Answered.{owes-granted}
use Rattle.pool_state.proofs.Judged.{change_no-known}
use Rattle.pool_state.proofs.Claims.{admits-list_at}
use Rattle.pool_state.proofs.Restated.{over-planned}
use Rattle.pool_state.proofs.Returns.{refused, seat, changed}
use Rattle.pool_state.proofs.Seen.{Seen, seen-state}
use Rattle.pool_state.proofs.WithSet.{claim-room_of}

-- What fits.
module _ {w : List ℕ} {S : State} {k : ℕ} {v : Survey} (h : Seen w S k v) {x y : ℕ} where
  pub fits-share : y < x → false ≡ fits S k (planned (set_at S k) x y)
  unfolding fits
  fits-share lt = rw (lt-leb x y lt)

  module _ (le : x ≤ y) where
    pub fits-held : y < v.held → false ≡ fits S k (planned (set_at S k) x y)
    unfolding fits
    fits-held lt = let g : y < held (set_at S k) = omega (arith, h.held) in rw (le-leb x y le, lt-leb (held (set_at S k)) y g)

    pub fits-room : {r : ℕ} → v.held ≤ y → r ≡ room_of S k → leb x r ≡ fits S k (planned (set_at S k) x y)
    unfolding fits
    fits-room {r} lf e =
        let g : held (set_at S k) ≤ y = omega (arith, h.held) in
        let c = claim-room_of S k (seen-state h) h.known in
        let new = claim (planned (set_at S k) x y) in
        rw (le-leb x y le, le-leb (held (set_at S k)) y g, admits-list_at S k (seen-state h), e)
        (bool_iff (leb x (room_of S k)) (leb new (room_of S k))
        (λ q. le-leb new (room_of S k) (omega (arith, c, leb-true x (room_of S k) q)))
        (λ q. le-leb x (room_of S k) (omega (arith, leb-true new (room_of S k) q))))

-- The returns.
module _ {w : List ℕ} {k : ℕ} (x y : ℕ) where
  pub replan-seat : (r : Refusal) → Refuses (decode w) k (number r) → Replanned w k x y (number r, 0) w
  replan-seat r h = changed (seat (plan_rules k x y) (λ S. planned (set_at S k) x y) w k h)

  module _ {S : State} {v : Survey} (h : Seen w S k v) where
    ruled : (b : Bool) → fits S k (planned (set_at S k) x y) ≡ b → change_no S k (plan_rules k x y S) ≡ first_no ((not b, BadShare) ∷ [])
    unfolding plan_rules
    ruled b e = change_no-known S k (plan_rules k x y S) h.known ∙ rw e

    pub replan-refused : {b : Bool} → b ≡ fits S k (planned (set_at S k) x y) → b ≡ false → Replanned w k x y (number BadShare, 0) w
    replan-refused e f = changed (refused (plan_rules k x y) (λ T. planned (set_at T k) x y) w S k h.decoded (ruled false (sym e ∙ f)) (number-some BadShare))

    pub replan-granted : {b : Bool} {u : List ℕ} → b ≡ fits S k (planned (set_at S k) x y) → b ≡ true → u ≡ set (set w (record_at k + 1) x) (record_at k + 2) y
        → Replanned w k x y (0, v.held) u
    unfolding change_rule words_after
    replan-granted {u = u} e f q =
        let p : record_at k + 2 ≡ record_at k + 1 + 1 = omega arith in
        let two : set (set w (record_at k + 1) x) (record_at k + 2) y ≡ put w (record_at k + 1) (x ∷ y ∷ []) =
        rw (set-put w (record_at k + 1) x, set-put (put w (record_at k + 1) (x ∷ [])) (record_at k + 2) y) (put-behind-at w (record_at k + 1) (record_at k + 2) (x ∷ []) (y ∷ []) p) in
        let o : u ≡ over w (with_set S k (planned (set_at S k) x y)) = q ∙ two ∙ sym (over-planned w S k h.decoded h.known x y) in
        rw (o, h.held) (changed (owes-granted _ 0 _ w _ h.decoded (ruled true (sym e ∙ f))))
