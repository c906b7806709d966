-- "For any sequence without an indexed set that the old form grants throughout, the new one grants all": a list takes no more nodes in the second form than
-- in either, so every claim is no more and every room no less. All else that a call is judged by, and what it makes of a set, depends on lists, shares, limits
-- and marks, which are the same. What the calls that read tell of the two pools is in FormReadings; lines and sequences are in FormLines. Assumes nothing.
use mathlib.Core.Path.{◌≡◌, refl, sym, ap, ◌∙◌}
use mathlib.Core.Bool.{Bool, true, false, cond}
use mathlib.Core.List.{List, [], ◌∷◌, ◌++◌}
use Prim.Native.Nat.{ℕ, zero, suc, ◌/◌, ◌%◌, ◌≤◌, ◌<◌}
use native.Mathlib.Omega.{arith}
use lib.Dec.{eqb, leb}
use lib.ListN.{length, get_or}
use borrow.Author.Tests.{le-ltb, le-leb, eq-eqb, not-false}
use Rattle.nets.specs.Bits.{Bits, before, bits}
use Rattle.nets.specs.Lists.{add_l}
use Rattle.nets.specs.Networks.{width, net_bits, in_range, refusal_of}
use Rattle.nets.specs.Refusals.{first_no}
use Rattle.nets.proofs.Refused.{first_no-zero, first_no-both}
use Rattle.branch_points.specs.BranchPoints.{kept_l, kept_nodes_l}
use Rattle.branch_points.proofs.Counts.{kept_nodes_l-le}
use Rattle.pool_state.specs.Kept.{Form, first, second, held_l}
use Rattle.pool_state.specs.States.{SetState, State, used, claimed, claimed_but, free_of, room_of}
use Rattle.pool_state.specs.Decode.{is_form, sound}
use Rattle.pool_state.specs.Rules.{no_set, total, Setup, setup, words_of, is_formed, is_setup, shares_fit, layout_no, empty_sets, empty_state, Laid}
use Rattle.pool_state.specs.Changes.{set_at, sets_with, with_set, fits, change_rules, planned, plan_rules, marked, mark_rules, grant_rules, relist_rules, relist_set, net_rules}
use Rattle.pool_state.proofs.WithSet.{fits-is, is-fits}
use Rattle.pool_state.proofs.Judged.{change_no-known, change_no-zero, grant-within, grant-admits}
use Rattle.pool_state.proofs.Setups.{Kept, is_setup-kept}
use Rattle.histories.specs.Calls.{Relist, Call, relist, replan, make_public, writes, target, args_of, result_of, next_of, call_no, state_after, Outcome}
use Rattle.histories.specs.Histories.{state_from, answers_from, SameList}
use Rattle.histories.specs.Forms.{set_in, sets_in, in_form, SecondOf}
use Rattle.histories.proofs.Step.{call-lists, call_no-granting, next_of-is, outcome-answer, outcome-decode}
use Rattle.histories.proofs.Histories.{layout-begins, pool100, adds}

-- no more nodes than in either form
pub held-fewer : (F : Form) (l : List Bits) → held_l second l ≤ held_l F l
unfolding held_l
held-fewer first l = kept_nodes_l-le l
held-fewer second l = omega arith

-- Sets in another form.
length-sets_in : (F : Form) (ss : List SetState) → length (sets_in F ss) ≡ length ss
length-sets_in F [] = refl
length-sets_in F (s ∷ ss) = ap suc (length-sets_in F ss)

sets_in-at : (F : Form) (k : ℕ) (ss : List SetState) → k < length ss → get_or (sets_in F ss) k no_set ≡ set_in F (get_or ss k no_set)
sets_in-at F k [] lt = absurd (omega arith)
sets_in-at F zero (s ∷ ss) lt = refl
sets_in-at F (suc k) (s ∷ ss) lt = sets_in-at F k ss (omega arith)

sets_in-list : (F : Form) (k : ℕ) (ss : List SetState) → (get_or ss k no_set).list ≡ (get_or (sets_in F ss) k no_set).list
sets_in-list F k [] = refl
sets_in-list F zero (s ∷ ss) = refl
sets_in-list F (suc k) (s ∷ ss) = sets_in-list F k ss

sets_in-with : (F : Form) (k : ℕ) (x : SetState) (ss : List SetState) → sets_with k (set_in F x) (sets_in F ss) ≡ sets_in F (sets_with k x ss)
sets_in-with F k x [] = refl
sets_in-with F zero x (s ∷ ss) = refl
sets_in-with F (suc k) x (s ∷ ss) = ap (λ ts. set_in F s ∷ ts) (sets_in-with F k x ss)

used-fewer : (ss : List SetState) → used (sets_in second ss) ≤ used ss
unfolding used
used-fewer [] = omega arith
used-fewer (s ∷ ss) = omega (arith, held-fewer s.form s.list, used-fewer ss)

claimed-fewer : (ss : List SetState) → claimed (sets_in second ss) ≤ claimed ss
unfolding claimed
claimed-fewer [] = omega arith
claimed-fewer (s ∷ ss) = omega (arith, held-fewer s.form s.list, claimed-fewer ss)

claimed_but-fewer : (k : ℕ) (ss : List SetState) → claimed_but k (sets_in second ss) ≤ claimed_but k ss
unfolding claimed_but
claimed_but-fewer k [] = omega arith
claimed_but-fewer zero (s ∷ ss) = claimed-fewer ss
claimed_but-fewer (suc k) (s ∷ ss) = omega (arith, held-fewer s.form s.list, claimed_but-fewer k ss)

-- A state in the second form.
module _ (S : State) where
  pub in_form-list : (k : ℕ) → SameList k S (in_form second S)
  in_form-list k = record { family = refl; known = ap (λ n. leb n k) (sym (length-sets_in second S.sets)); list = sets_in-list second k S.sets }

  pub room-more : (k : ℕ) → room_of S k ≤ room_of (in_form second S) k
  room-more k = omega (arith, claimed_but-fewer k S.sets)

  pub free_more : free_of S ≤ free_of (in_form second S)
  free_more = omega (arith, used-fewer S.sets)

  module _ (k : ℕ) (lt : k < length S.sets) where
    known-second : k < length (in_form second S).sets
    known-second = omega (arith, length-sets_in second S.sets)

    pub set_at-second : set_at (in_form second S) k ≡ set_in second (set_at S k)
    set_at-second = sets_in-at second k S.sets lt

    -- what is granted to a result, and what fits
    grant-second : (l : List Bits) → first_no (grant_rules S k l) ≡ 0 → first_no (grant_rules (in_form second S) k l) ≡ 0
    grant-second l e =
        let (m, r) = grant-within S k l e in
        let f = held-fewer (set_at S k).form l in
        rw (
          set_at-second,
          grant-admits S k l e,
          le-ltb (set_at S k).limit (held_l second l) (omega (arith, f, m)),
          le-ltb (room_of (in_form second S) k) (held_l second l) (omega (arith, f, r, room-more k)),
        )

    fits-second : (x : SetState) → fits S k x ≡ true → fits (in_form second S) k (set_in second x) ≡ true
    fits-second x e =
        let h = fits-is S k x e in
        let f = held-fewer x.form x.list in
        is-fits (in_form second S) k (set_in second x)
        (record { share = h.share; held = omega (arith, f, h.held); public = h.public; room = omega (arith, f, h.room, room-more k) })

-- One call that is granted.
module _ (S : State) where
  abbrev there : State
  there = in_form second S

  named : (c : Relist) → (args_of c S ≡ args_of c there) × (result_of c S ≡ result_of c there)
  named c = call-lists c S there (λ j f. in_form-list S j)

  next-second : (c : Call) → target c < length S.sets → next_of c there ≡ set_in second (next_of c S)
  next-second (relist c) lt = next_of-is there c ∙ rw (set_at-second S (writes c) lt, ← (named c).1) (sym (ap (set_in second) (next_of-is S c)))
  next-second (replan k x y) lt = ap (λ s. planned s x y) (set_at-second S k lt)
  next-second (make_public k) lt = ap marked (set_at-second S k lt)

  relist-second : (c : Relist) → call_no S (relist c) ≡ 0 → call_no there (relist c) ≡ 0
  unfolding relist_rules
  relist-second c e =
      let k = writes c in
      let (lt, z) = change_no-zero S k (args_of c S ++ grant_rules S k (result_of c S)) e in
      let (x, y) = first_no-both (args_of c S) (grant_rules S k (result_of c S)) z in
      call_no-granting there c (known-second S k lt) (rw (named c).0 at x) ∙ rw (← (named c).1) (grant-second S k lt (result_of c S) y)

  plan-second : (k x y : ℕ) → call_no S (replan k x y) ≡ 0 → call_no there (replan k x y) ≡ 0
  unfolding plan_rules
  plan-second k x y e =
      let (lt, z) = change_no-zero S k (plan_rules k x y S) e in
      let f = fits-second S k lt (planned (set_at S k) x y) (not-false _ (first_no-zero (plan_rules k x y S) z).0) in
      change_no-known there k (plan_rules k x y there) (known-second S k lt) ∙ rw (set_at-second S k lt, f)

  mark-second : (k : ℕ) → call_no S (make_public k) ≡ 0 → call_no there (make_public k) ≡ 0
  unfolding change_rules mark_rules
  mark-second k e = let h = in_form-list S k in rw (h.known, h.list) at e

  call-second : (c : Call) → call_no S c ≡ 0 → call_no there c ≡ 0
  call-second (relist c) e = relist-second c e
  call-second (replan k x y) e = plan-second k x y e
  call-second (make_public k) e = mark-second k e

  after-second : (c : Call) → call_no S c ≡ 0 → state_after there c ≡ in_form second (state_after S c)
  unfolding state_after with_set
  after-second c e =
      let n = next-second c (change_no-zero S (target c) _ e).0 in
      let in-sets : List SetState → State = λ ss. record { family = S.family; form = second; nodes = S.nodes; sets = ss } in
      rw (eq-eqb (call_no S c) 0 e, eq-eqb (call_no there c) 0 (call-second c e), n) (ap in-sets (sets_in-with second (target c) (next_of c S) S.sets))

-- The same call from words that hold a state, where it is granted, and from others that hold that state in the second form.
module _ {u v x y : List ℕ} {r s : ℕ × ℕ} (k : SecondOf u v) (c : Call) (o : Outcome u c r x) (e : r.0 ≡ 0) (p : Outcome v c s y) where
  abbrev S : State
  S = k.state

  no-here : call_no S c ≡ 0
  no-here = sym (ap (λ a. a.0) (outcome-answer S c k.here o)) ∙ e

  no-there : call_no (there S) c ≡ 0
  no-there = call-second S c no-here

  pub outcome-granted : s.0 ≡ 0
  outcome-granted = ap (λ a. a.0) (outcome-answer (there S) c k.there p) ∙ no-there

  pub outcome-nodes : s.1 ≤ r.1
  outcome-nodes =
      rw (
        outcome-answer S c k.here o,
        outcome-answer (there S) c k.there p,
        eq-eqb (call_no S c) 0 no-here,
        eq-eqb (call_no (there S) c) 0 no-there,
        next-second S c (change_no-zero S (target c) _ no-here).0,
      )
      (held-fewer (next_of c S).form (next_of c S).list)

  pub outcome-second : SecondOf x y
  outcome-second =
      record {
        state = state_after S c;
        here = outcome-decode S c k.here o;
        there = outcome-decode (there S) c k.there p ∙ ap sound (after-second S c no-here);
      }

-- "At layout a pool may choose a second form": the same setup, in as many words.
empty_sets-second : (xs ys : List ℕ) (x : ℕ) → empty_sets second xs ys x ≡ sets_in second (empty_sets first xs ys x)
empty_sets-second [] ys x = refl
empty_sets-second (a ∷ xs) [] x = refl
empty_sets-second (a ∷ xs) (b ∷ ys) x =
    ap (λ ss. record { share = a; limit = b; public = false; indexed = eqb (x % 2) 1; form = second; list = [] } ∷ ss) (empty_sets-second xs ys (x / 2))

second-formed : is_formed 1 0 ≡ true
unfolding is_formed is_form
second-formed = refl

module _ (f m n : ℕ) (xs ys : List ℕ) where
  abbrev one : Setup
  one = setup f 0 m n xs ys 0

  abbrev two : Setup
  two = setup f 1 m n xs ys 0

  empty-second : empty_state two ≡ in_form second (empty_state one)
  empty-second = ap (λ ss. record { family = f; form = second; nodes = n; sets = ss }) (empty_sets-second xs ys 0)

  kept-one : (o : List ℕ) → layout_no o one ≡ 0 → Kept (length o) one
  unfolding layout_no
  kept-one o e = is_setup-kept (length o) one (go (is_setup (length o) one) e)
    where
      go : (b : Bool) → ◌≡◌ {A = ℕ} (cond b 0 1) 0 → b ≡ true
      go true q = refl
      go false q = absurd (omega arith)

  setup-second : (o y : List ℕ) → layout_no o one ≡ 0 → words_of one ≤ length y → layout_no y two ≡ 0
  unfolding layout_no is_setup shares_fit
  setup-second o y e le =
      let h = kept-one o e in
      rw (
        h.family,
        second-formed,
        h.size,
        h.marks,
        le-leb (words_of one) (length y) le,
        eq-eqb (length xs) m h.share,
        eq-eqb (length ys) m h.limit,
        h.within,
        le-leb (total xs) n h.total,
      )

  module _ {o w y z : List ℕ} {i : ℕ} {r : ℕ × ℕ} (l : Laid o one (0, i) w) (le : words_of one ≤ length y) (t : Laid y two r z) where
    pub second-laid : r ≡ (0, 0)
    second-laid = t.answer ∙ ap (λ x. (x, 0)) (setup-second o y (sym (ap (λ a. a.0) l.answer)) le)

    pub second-begins : SecondOf w z
    second-begins = record { state = empty_state one; here = layout-begins l; there = layout-begins (rw second-laid at t) ∙ ap sound empty-second }

-- The document's pool of 100 nodes in the second form: the /80 that gets 9 in the first, and the /40 that gets 10 there beside the /59 of the other set, take
-- one node each.
pub worked-second : (answers_from (in_form second pool100) (adds 1 80 ∷ []) ≡ (0, 1) ∷ [])
    × (answers_from (in_form second pool100) (adds 0 40 ∷ adds 1 59 ∷ []) ≡ (0, 1) ∷ (0, 1) ∷ [])
unfolding state_from answers_from state_after change_rules with_set relist_rules relist_set net_rules refusal_of in_range width net_bits bits add_l held_l kept_nodes_l kept_l before claimed_but claimed
worked-second = (refl, refl)
