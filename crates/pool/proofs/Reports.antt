-- The reports by the tests of the code: each return is what the rule says of the decoded words, by what the survey has seen of them. Assumes nothing.
use mathlib.Core.Path.{◌≡◌, ap, ◌∙◌}
use mathlib.Core.Bool.{false}
use mathlib.Core.List.{List, []}
use Prim.Native.Nat.{ℕ, ◌+◌, ◌-◌, ◌*◌, ◌/◌}
use lib.ListN.{length, get_or, take, drop}
use borrow.Author.Tests.{lt-leb}
use Rattle.nodes.specs.Words.{zeros, place, enc}
use Rattle.nodes.proofs.Tries.{length-enc}
use Rattle.pool_state.specs.States.{State}
use Rattle.pool_state.specs.Decode.{decode, base}
use Rattle.pool_state.specs.Rules.{answer_on, seat_of, share_in, limit_in, free_rule, held_rule, plan_rule, found_of}
use Rattle.pool_state.specs.Changes.{set_at, list_at}
use Rattle.pool_state.specs.Steps.{Refuses}
use Rattle.pool_state.specs.declared.Survey.{Survey}
use Rattle.nodes.specs.declared.seats.Seat.{Seat}
use Rattle.nodes.proofs.Has.{has-seg}
use Rattle.nodes.proofs.Zeros.{zeros-enc}
use Rattle.pool_state.proofs.Answered.{owes-seat}
use Rattle.pool_state.proofs.OnTries.{trie_at, form-first, form-second, seen-list, seen_size, trie-has}
use Rattle.pool_state.proofs.Decoded.{decode-share, decode-limit}
use Rattle.pool_state.proofs.Seen.{Seen, survey-damaged, seen-header, own_held, own-list}
use native.Mathlib.Omega.{arith}
use Rattle.pool_state.proofs.Kept.{held_l-twice}
use Rattle.pool_state.specs.Kept.{held_l}
use Rattle.nets.specs.Networks.{width}
use Rattle.std.specs.Prelude.{None}

-- A damaged pool, or no such set.
pub free-damaged : (w : List ℕ) (k : ℕ) → None ≡ found_of (decode w) k → (2, 0) ≡ free_rule (decode w)
unfolding free_rule answer_on
free-damaged w k e = rw (survey-damaged w k e)

module _ (w : List ℕ) (k : ℕ) {x : ℕ} (h : Refuses (decode w) k x) where
  pub held-refused : (x, (0, 0)) ≡ held_rule (decode w) k
  unfolding held_rule
  held-refused = (owes-seat {A = ℕ × ℕ} (λ S. []) (0, 0) _ w (λ S. w) (decode w) k h).0

  pub plan-refused : (x, (0, 0)) ≡ plan_rule (decode w) k
  unfolding plan_rule
  plan-refused = (owes-seat {A = ℕ × ℕ} (λ S. []) (0, 0) _ w (λ S. w) (decode w) k h).0

-- The seat of a surveyed set.
module _ {w : List ℕ} {S : State} {k : ℕ} {v : Survey} (h : Seen w S k v) {s : Seat} (e : s ≡ seat_of w v) where
  pub seat-base : s.base ≡ base (get_or w 2 0)
  seat-base = rw e

  pub seat-first : s.first ≡ v.at
  seat-first = rw e

  pub seat-end : s.end ≡ v.at + v.held
  seat-end = rw e

-- A set of a sound pool.
module _ {w : List ℕ} {S : State} {k : ℕ} {v : Survey} (h : Seen w S k v) where
  pub free-granted : (0, get_or w 3 0 - v.used) ≡ free_rule (decode w)
  unfolding free_rule answer_on
  free-granted = rw (h.decoded, h.used, (seen-header h).nodes)

  -- the networks are the zeros among the words of the trie, or as many as a trie of the second form with those nodes has
  pub networks-first : get_or w 5 0 ≡ 0 → {s : Seat} → s ≡ seat_of w v → zeros (take v.held (drop (place s.base s.first) w)) ≡ length (list_at S k)
  networks-first z e =
      let F = form-first h z in
      let n : length (enc (trie_at S k)) ≡ v.held = length-enc (trie_at S k) ∙ seen_size h F in
      rw (e, ← n) (ap zeros (has-seg (trie-has h F)) ∙ zeros-enc (trie_at S k) ∙ ap length (seen-list h))

  pub networks-second : (get_or w 5 0 ≡ 0 → ⊥) → (v.held + 1) / 2 ≡ length (list_at S k)
  networks-second ne =
      let e : v.held ≡ 2 * length (list_at S k) - 1 = own_held h ∙ ap (λ F. held_l F (list_at S k)) (form-second h ne) ∙ held_l-twice (width S.family) (list_at S k) (own-list h) in
      omega (arith, e)

  pub held-numbers : {n : ℕ} → n ≡ length (list_at S k) → (0, (v.held, n)) ≡ held_rule (decode w) k
  unfolding held_rule answer_on
  held-numbers e = rw (e, h.decoded, lt-leb (length S.sets) k h.known, h.held)

  pub plan-numbers : (0, (share_in w k, limit_in w k)) ≡ plan_rule (decode w) k
  unfolding plan_rule answer_on
  plan-numbers = rw (decode-share w S h.decoded k h.known, decode-limit w S h.decoded k h.known, h.decoded, lt-leb (length S.sets) k h.known)
