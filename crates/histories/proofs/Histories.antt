-- Every sequence of calls from words that hold a state on, by its last call. Each beginning of a history is a history, so what holds of every history holds after every step.
-- A granted layout leaves such words (`layout-begins`), and so does every history. Assumes nothing.
use mathlib.Core.Path.{◌≡◌, refl, sym, ap, ◌∙◌}
use mathlib.Core.Bool.{true, cond}
use mathlib.Core.List.{List, [], ◌∷◌}
use Prim.Native.Nat.{ℕ, ◌+◌, ◌≤◌, ◌<◌}
use lib.ListN.{length}
use borrow.Author.Tests.{lt-ltb, le-ltb}
use Rattle.nets.specs.Bits.{before, bits}
use Rattle.nets.specs.Lists.{nodes_l, is_list, add_l}
use Rattle.nets.specs.Networks.{width, net_bits, in_range, refusal_of}
use Rattle.nets.specs.declared.Net.{Net}
use Rattle.pool_state.specs.Kept.{held_l}
use Rattle.pool_state.specs.States.{State, held, used, claimed, claimed_but, free_of, room_of, admits, is_state}
use Rattle.pool_state.specs.Decode.{least_of, sound, decode}
use Rattle.pool_state.specs.Rules.{answer_on, Setup, setup, empty_state, layout_no, Laid, free_rule}
use Rattle.pool_state.specs.Changes.{set_at, list_at, with_set, fits, change_rules, change_rule, words_after, plan_rules, relist_rules, relist_set, net_rules}
use Rattle.pool_state.proofs.Answered.{left_on-refused}
use Rattle.pool_state.proofs.Claims.{is_list-list_at, held-limit, free_of-is}
use Rattle.pool_state.proofs.Decoded.{decode-state, decode-laid}
use Rattle.pool_state.proofs.Determined.{changed-same}
use Rattle.pool_state.proofs.Past.{Past, past-refl, past-trans}
use Rattle.pool_state.proofs.WithSet.{SamePlan}
use Rattle.replan.proofs.Outcomes.{may_plan, replan-exactly}
use Rattle.histories.specs.Calls.{Relist, Call, add, relist, replan, make_public, writes, target, args_no, result_of, call_no, answer_of, state_after, Outcome}
use Rattle.histories.specs.Histories.{state_from, answers_from, History, begin, step}
use Rattle.histories.proofs.Step.{call_no-share, call_no-room, state_after-plan, state_after-lists, state_after-marked, outcome-answer, state_after-numbers, state_after-least, state_after-other, outcome-decode, outcome-past, state_after-form}

-- One call from any words.

-- "We want a proof that two outcomes allowed by it are equal". Those of layout and of the reports are in the proofs of pool.
pub call-determined : {w u v : List ℕ} {r s : ℕ × ℕ} (c : Call) → Outcome w c r u → Outcome w c s v → (r ≡ s) × (u ≡ v)
call-determined c h k = changed-same h k

-- "A refusal returns its number and zeros elsewhere, and no lent word changes."
pub refused-same : {w v : List ℕ} {r : ℕ × ℕ} (c : Call) → Outcome w c r v → (r.0 ≡ 0 → ⊥) → v ≡ w
unfolding change_rule words_after
refused-same {w} c o ne = o.words ∙ left_on-refused _ 0 _ w _ (decode w) (λ q. ne (ap (λ a. a.0) o.answer ∙ q))

-- so the first words and the calls determine a history
pub history-determined : {w u v : List ℕ} {cs : List Call} {rs ss : List (ℕ × ℕ)} → History w cs rs u → History w cs ss v → (rs ≡ ss) × (u ≡ v)
history-determined begin begin = (refl, refl)
history-determined (step {c = c} h o) (step g q) =
    let (e, f) = history-determined h g in
    let (x, y) = call-determined c o (rw (← f) at q) in
    (rw (e, x), y)

-- The state of a history.
pub state_from-form : (S : State) (cs : List Call) → (state_from S cs).form ≡ S.form
unfolding state_from
state_from-form S [] = refl
state_from-form S (c ∷ cs) = state_after-form (state_from S cs) c ∙ state_from-form S cs

pub state_from-numbers : (S : State) (cs : List Call)
    → ((state_from S cs).family ≡ S.family) × ((state_from S cs).nodes ≡ S.nodes) × (length (state_from S cs).sets ≡ length S.sets)
unfolding state_from
state_from-numbers S [] = (refl, refl, refl)
state_from-numbers S (c ∷ cs) =
    let h = state_from-numbers S cs in
    let n = state_after-numbers (state_from S cs) c in
    (n.0 ∙ h.0, n.1 ∙ h.1, n.2 ∙ h.2)

-- its smallest buffer stays
state_from-least : (S : State) (cs : List Call) → least_of (state_from S cs) ≡ least_of S
unfolding state_from
state_from-least S [] = refl
state_from-least S (c ∷ cs) = state_after-least (state_from S cs) c ∙ state_from-least S cs

-- "Every memory reached from a layout by these calls is sound." It holds the lists that the calls make, and no others. A layout begins a history, where it is granted.
pub layout-begins : {w v : List ℕ} {p : Setup} {n : ℕ} → Laid w p (0, n) v → decode v ≡ sound (empty_state p)
layout-begins {w} {p = p} h =
    let e : layout_no w p ≡ 0 = sym (ap (λ a. a.0) h.answer) in
    rw (h.words, e) (decode-laid w p e)

module _ {w : List ℕ} {S : State} (d : decode w ≡ sound S) where
  pub history-sound : {cs : List Call} {rs : List (ℕ × ℕ)} {v : List ℕ} → History w cs rs v → decode v ≡ sound (state_from S cs)
  unfolding state_from
  history-sound begin = d
  history-sound (step {cs = cs} {c = c} h o) = outcome-decode (state_from S cs) c (history-sound h) o

  -- "No call touches words past the smallest buffer."
  pub history-past : {cs : List Call} {rs : List (ℕ × ℕ)} {v : List ℕ} → History w cs rs v → Past (least_of S) w v
  history-past begin = past-refl _ w
  history-past (step {cs = cs} {c = c} h o) =
      past-trans (history-past h) (rw (state_from-least S cs) at (outcome-past (state_from S cs) c (history-sound h) o))

  module _ {cs : List Call} {rs : List (ℕ × ℕ)} {v : List ℕ} (h : History w cs rs v) where
    -- the rules of a state hold
    pub history-state : is_state (state_from S cs) ≡ true
    history-state = decode-state v (state_from S cs) (history-sound h)

    -- "Sound memory gives each set one list within its limit".
    pub history-limit : (k : ℕ) → held (set_at (state_from S cs) k) ≤ (set_at (state_from S cs) k).limit
    history-limit k = held-limit (state_from S cs) k history-state

    -- "A set's list holds its networks in the order of the Rust's iteration: shorter length first, then smaller address. No member lies inside another." The laws of nets on
    -- what the calls cover ask no more.
    pub lists-valid : (k : ℕ) → is_list (width S.family) (list_at (state_from S cs) k) ≡ true
    lists-valid k = rw (state_from-numbers S cs).0 at (is_list-list_at (state_from S cs) k history-state)

    -- "The free report equals the pool's nodes less the nodes of all lists."
    pub free-exact : (free_rule (decode v) ≡ (0, free_of (state_from S cs))) × (free_of (state_from S cs) + used (state_from S cs).sets ≡ S.nodes)
    unfolding free_rule answer_on
    free-exact = (rw (history-sound h), free_of-is (state_from S cs) history-state ∙ (state_from-numbers S cs).1)

    -- A further call.
    module _ {u : List ℕ} {r : ℕ × ℕ} (c : Call) (o : Outcome v c r u) where
      -- "The smallest number that applies is answered." "A granted changing call returns the nodes of its result."
      pub history-answer : r ≡ answer_of (state_from S cs) c
      history-answer = outcome-answer (state_from S cs) c (history-sound h) o

      number_is : r.0 ≡ call_no (state_from S cs) c
      number_is = ap (λ a. a.0) history-answer

    -- One that relists, by the share and the limit in force.
    module _ {u : List ℕ} {r : ℕ × ℕ} (c : Relist) (o : Outcome v (relist c) r u) where
      -- "the sum over all sets of the larger of share and nodes is at most the pool's": so a result within the share is never refused for room.
      pub share-granted : held_l (set_at (state_from S cs) (writes c)).form (result_of c (state_from S cs)) ≤ (set_at (state_from S cs) (writes c)).share → r.0 ≡ 10 → ⊥
      share-granted le e = call_no-share (state_from S cs) c history-state le (sym (number_is (relist c) o) ∙ e)

      -- "Room for a set is the pool's nodes less, for every other set, the larger of its share and the nodes of its list. A changing call is judged by the nodes of its result alone".
      pub room-exact : writes c < length (state_from S cs).sets → args_no c (state_from S cs) ≡ 0
          → admits (state_from S cs).family (set_at (state_from S cs) (writes c)) (result_of c (state_from S cs)) ≡ true
          → held_l (set_at (state_from S cs) (writes c)).form (result_of c (state_from S cs)) ≤ (set_at (state_from S cs) (writes c)).limit
          → (held_l (set_at (state_from S cs) (writes c)).form (result_of c (state_from S cs)) ≤ room_of (state_from S cs) (writes c) → r.0 ≡ 0)
          × (room_of (state_from S cs) (writes c) < held_l (set_at (state_from S cs) (writes c)).form (result_of c (state_from S cs)) → r.0 ≡ 10)
      room-exact lt a m le =
          let e = number_is (relist c) o ∙ call_no-room (state_from S cs) c lt a m le in
          (λ k. rw (le-ltb _ _ k) at e, λ k. rw (lt-ltb _ _ k) at e)

    -- A replan is granted exactly by the request's three conditions, of the nodes held and the shares in force.
    pub plan-exact : {u : List ℕ} {r : ℕ × ℕ} (k x y : ℕ) → Outcome v (replan k x y) r u → k < length (state_from S cs).sets → r.0 ≡ cond (may_plan (state_from S cs) k x y) 0 13
    plan-exact k x y o lt = number_is (replan k x y) o ∙ replan-exactly (state_from S cs) k x y history-state lt

  -- "demand 2 holds after each step": all answers of a history are those of the rules, and so the state and the calls determine them.
  pub history-answers : {cs : List Call} {rs : List (ℕ × ℕ)} {v : List ℕ} → History w cs rs v → rs ≡ answers_from S cs
  unfolding answers_from
  history-answers begin = refl
  history-answers (step {c = c} h o) = rw (history-answer h c o, history-answers h)

-- "merge, intersect and exclude write a third set": every call writes one set, and all that is of another stays.
module _ (S : State) (cs : List Call) where
  pub only-written : (c : Call) (j : ℕ) → (j ≡ target c → ⊥) → set_at (state_from S (c ∷ cs)) j ≡ set_at (state_from S cs) j
  unfolding state_from
  only-written c j ne = state_after-other (state_from S cs) c j ne

  -- a call that relists changes no share, no limit and no mark; a replan, and making a set public-only, no list
  pub plans-stay : (c : Relist) (j : ℕ) → SamePlan (set_at (state_from S (relist c ∷ cs)) j) (set_at (state_from S cs) j)
  unfolding state_from
  plans-stay c j = state_after-plan (state_from S cs) c j

  pub lists-stay : (k x y j : ℕ) → list_at (state_from S (replan k x y ∷ cs)) j ≡ list_at (state_from S cs) j
  unfolding state_from
  lists-stay k x y j = state_after-lists (state_from S cs) k x y j

  pub lists-marked : (k j : ℕ) → list_at (state_from S (make_public k ∷ cs)) j ≡ list_at (state_from S cs) j
  unfolding state_from
  lists-marked k j = state_after-marked (state_from S cs) k j

-- "IPv6 pool, 100 nodes, shares 40 and 30, limits 60 and 80, both sets empty. On set 1, adding a /59 (60 nodes) is granted; a /60 or /79 instead gets 10, a /80 gets 9. With the
-- /59 there, set 0 may add a /39; a /40 gets 10."
abbrev pub pool100 : State
pool100 = empty_state (setup 6 0 2 100 (40 ∷ 30 ∷ []) (60 ∷ 80 ∷ []) 0)

abbrev pub net : ℕ → Net
net n = record { family = 6; hi = 0; lo = 0; len = n }

abbrev pub adds : ℕ → ℕ → Call
adds k n = relist (add k (net n))

pub worked-pool : (answers_from pool100 (adds 1 59 ∷ []) ≡ (0, 60) ∷ [])
    × (answers_from pool100 (adds 1 60 ∷ []) ≡ (10, 0) ∷ [])
    × (answers_from pool100 (adds 1 79 ∷ []) ≡ (10, 0) ∷ [])
    × (answers_from pool100 (adds 1 80 ∷ []) ≡ (9, 0) ∷ [])
    × (answers_from pool100 (adds 0 39 ∷ adds 1 59 ∷ []) ≡ (0, 40) ∷ (0, 60) ∷ [])
    × (answers_from pool100 (adds 0 40 ∷ adds 1 59 ∷ []) ≡ (10, 0) ∷ (0, 60) ∷ [])
unfolding state_from answers_from state_after change_rules with_set relist_rules relist_set net_rules refusal_of in_range width net_bits bits add_l held_l nodes_l before claimed_but claimed
worked-pool = (refl, refl, refl, refl, refl, refl)

-- Shares that move, in the same pool. Set 0 gives 20 of its 40 nodes up, and then set 1 may have 80: its room is the pool less the share in force. Set 0 gets them back no more, at
-- 20 nodes yes and at 21 no. Or it claims what is left above the 30 of set 1, at 70 nodes yes and at 71 no, and then set 1 may have its 30 and none above it. A share is at most the
-- limit, and a limit at least the nodes.
pub worked-plans : (answers_from pool100 (adds 1 79 ∷ replan 0 20 60 ∷ []) ≡ (0, 80) ∷ (0, 0) ∷ [])
    × (answers_from pool100 (replan 0 21 60 ∷ adds 1 79 ∷ replan 0 20 60 ∷ []) ≡ (13, 0) ∷ (0, 80) ∷ (0, 0) ∷ [])
    × (answers_from pool100 (replan 0 20 60 ∷ adds 1 79 ∷ replan 0 20 60 ∷ []) ≡ (0, 0) ∷ (0, 80) ∷ (0, 0) ∷ [])
    × (answers_from pool100 (adds 1 29 ∷ replan 0 70 70 ∷ []) ≡ (0, 30) ∷ (0, 0) ∷ [])
    × (answers_from pool100 (adds 1 30 ∷ replan 0 71 71 ∷ replan 0 70 70 ∷ []) ≡ (10, 0) ∷ (13, 0) ∷ (0, 0) ∷ [])
    × (answers_from pool100 (replan 0 40 39 ∷ []) ≡ (13, 0) ∷ [])
    × (answers_from pool100 (replan 1 0 60 ∷ adds 1 59 ∷ []) ≡ (0, 60) ∷ (0, 60) ∷ [])
    × (answers_from pool100 (replan 1 0 59 ∷ adds 1 59 ∷ []) ≡ (13, 0) ∷ (0, 60) ∷ [])
unfolding state_from answers_from state_after change_rules with_set fits plan_rules relist_rules relist_set net_rules refusal_of in_range width net_bits bits add_l held_l nodes_l before claimed_but claimed
worked-plans = (refl, refl, refl, refl, refl, refl, refl, refl)
