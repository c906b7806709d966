-- Public-only sets in histories. After every sequence of calls the list of such a set covers no address of an inner network, for good from the call on that made it one: no call
-- takes the mark away, and 14 is given exactly where a result would overlap. Assumes nothing.
use mathlib.Core.Path.{◌≡◌, refl, sym, ap, ◌∙◌}
use mathlib.Core.Bool.{Bool, true, false, not, true≢false}
use mathlib.Core.List.{List, [], ◌∷◌}
use Prim.Native.Nat.{ℕ, ◌*◌, ◌<◌, ◌^◌}
use native.Mathlib.Omega.{arith}
use lib.Dec.{ltb}
use lib.ListN.{length}
use borrow.Author.Tests.{eq-eqb}
use Rattle.nets.specs.Bits.{Bits, before, bits}
use Rattle.nets.specs.Tries.{levels, list_of, insert_t, trie_of, simplify_t}
use Rattle.nets.specs.Lists.{nodes_l, covers, add_l, remove_l, simplify_l, merge_l, intersect_l, difference_l, exclude_l}
use Rattle.nets.specs.Networks.{width, net_bits, in_range, refusal_of}
use Rattle.nets.specs.Refusals.{first_no}
use Rattle.nets.specs.declared.Net.{Net}
use Rattle.nets.specs.declared.Refusal.TheVariants.{OverLimit, NoRoom, NotPublic}
use Rattle.inner_nets.specs.Inner.{overlaps, inner_nets4, inner_nets, inner, is_public}
use Rattle.inner_nets.proofs.Addresses.{is_public-apart}
use Rattle.pool_state.specs.Kept.{held_l}
use Rattle.pool_state.specs.States.{SetState, State, claimed, claimed_but, room_of, admits}
use Rattle.pool_state.specs.Decode.{sound, decode}
use Rattle.pool_state.specs.Rules.{setup, empty_state}
use Rattle.pool_state.specs.Changes.{set_at, list_at, with_set, fits, change_rules, plan_rules, mark_rules, relist_rules, relist_set, net_rules}
use Rattle.pool_state.proofs.Claims.{admits-list_at}
use Rattle.change_ask.proofs.Admitted.{admits-remove, admits-simplify}
use Rattle.combine.specs.Rules.{combine_rules}
use Rattle.histories.specs.Calls.{Relist, Call, add, remove, simplify, merge, intersect, exclude, exclude_apart, relist, replan, make_public, writes, args_no, result_of, call_no, state_after, Outcome}
use Rattle.histories.specs.Histories.{state_from, answers_from, History, step}
use Rattle.histories.proofs.Step.{call_no-granting, state_after-own, state_after-public}
use Rattle.histories.proofs.Histories.{state_from-numbers, history-sound, history-state, history-answer}

-- no call takes a mark away
pub public-stays : (S : State) (cs : List Call) (k : ℕ) → (set_at S k).public ≡ true → (set_at (state_from S cs) k).public ≡ true
unfolding state_from
public-stays S [] k p = p
public-stays S (c ∷ cs) k p = state_after-public (state_from S cs) c k (public-stays S cs k p)

-- 14 is the number of a result exactly where the set may not have it as far as its mark goes
granting-14 : (a b c : Bool) → (a ≡ false → first_no ((not a, NotPublic) ∷ (b, OverLimit) ∷ (c, NoRoom) ∷ []) ≡ 14)
    × (first_no ((not a, NotPublic) ∷ (b, OverLimit) ∷ (c, NoRoom) ∷ []) ≡ 14 → a ≡ false)
granting-14 false b c = (λ e. refl, λ e. refl)
granting-14 true true c = (λ e. let z : ◌≡◌ {A = ℕ} 0 1 = cc in absurd (omega arith), λ e. absurd (omega arith))
granting-14 true false true = (λ e. let z : ◌≡◌ {A = ℕ} 0 1 = cc in absurd (omega arith), λ e. absurd (omega arith))
granting-14 true false false = (λ e. let z : ◌≡◌ {A = ℕ} 0 1 = cc in absurd (omega arith), λ e. absurd (omega arith))

module _ {w : List ℕ} {S : State} (d : decode w ≡ sound S) where
  module _ {cs : List Call} {rs : List (ℕ × ℕ)} {v : List ℕ} (h : History w cs rs v) where
    -- "Its list then never overlaps" an inner network,
    pub public-clear : (k : ℕ) → (set_at (state_from S cs) k).public ≡ true → is_public S.family (list_at (state_from S cs) k) ≡ true
    public-clear k p = rw (p, (state_from-numbers S cs).0) at (admits-list_at (state_from S cs) k (history-state d h))

    -- and so it covers no address of one.
    pub public-apart : (k : ℕ) → (set_at (state_from S cs) k).public ≡ true → (a : Bits) → length a ≡ width S.family → covers (list_at (state_from S cs) k) a ≡ true
        → covers (inner S.family) a ≡ false
    public-apart k p = is_public-apart S.family (list_at (state_from S cs) k) (public-clear k p)

    -- "14 NotPublic, exactly when the result would overlap, after Occupied and before OverLimit": of a call on a set that is there, whose arguments are right.
    pub public-exact : {u : List ℕ} {r : ℕ × ℕ} (c : Relist) → Outcome v (relist c) r u → writes c < length (state_from S cs).sets → args_no c (state_from S cs) ≡ 0
        → let T = state_from S cs in let m = admits T.family (set_at T (writes c)) (result_of c T) in (m ≡ false → r.0 ≡ 14) × (r.0 ≡ 14 → m ≡ false)
    public-exact {r = r} c o lt a =
        let T = state_from S cs in
        let l = result_of c T in
        let n : r.0 ≡ call_no T (relist c) = ap (λ x. x.0) (history-answer d h (relist c) o) in
        let e = n ∙ call_no-granting T c lt a in
        let (x, y) = granting-14 (admits T.family (set_at T (writes c)) l) (ltb (set_at T (writes c)).limit (held_l (set_at T (writes c)).form l)) (ltb (room_of T (writes c)) (held_l (set_at T (writes c)).form l)) in
        (λ q. e ∙ x q, λ q. y (sym e ∙ q))

    -- removing and simplifying never get it: what is left is clear as the set was
    pub remove-never : {u : List ℕ} {r : ℕ × ℕ} (k : ℕ) (n : Net) → Outcome v (relist (remove k n)) r u → k < length (state_from S cs).sets → args_no (remove k n) (state_from S cs) ≡ 0
        → r.0 ≡ 14 → ⊥
    remove-never k n o lt a q = true≢false (sym (admits-remove (state_from S cs) k (history-state d h) (net_bits n)) ∙ (public-exact (remove k n) o lt a).1 q)

    pub simplify-never : {u : List ℕ} {r : ℕ × ℕ} (k : ℕ) → Outcome v (relist (simplify k)) r u → k < length (state_from S cs).sets → r.0 ≡ 14 → ⊥
    simplify-never k o lt q = true≢false (sym (admits-simplify (state_from S cs) k (history-state d h)) ∙ (public-exact (simplify k) o lt refl).1 q)

    -- a set that is made public-only is one
    pub public-made : {u : List ℕ} {n : ℕ} (k : ℕ) → Outcome v (make_public k) (0, n) u → (set_at (state_from S (make_public k ∷ cs)) k).public ≡ true
    unfolding state_from
    public-made k o =
        let T = state_from S cs in
        let z : call_no T (make_public k) ≡ 0 = sym (ap (λ x. x.0) (history-answer d h (make_public k) o)) in
        ap (λ (s : SetState). s.public) (rw (eq-eqb (call_no T (make_public k)) 0 z) at (state_after-own T (make_public k)))

-- "An empty set may be marked public-only, for good": from that call on, whatever calls follow, the list is clear of the inner networks.
pub public-for-good : {w u v z : List ℕ} {S : State} {cs ds : List Call} {rs ss : List (ℕ × ℕ)} {n : ℕ} (k : ℕ) → decode w ≡ sound S → History w cs rs u → Outcome u (make_public k) (0, n) v
    → History v ds ss z → is_public S.family (list_at (state_from (state_from S (make_public k ∷ cs)) ds) k) ≡ true
public-for-good {S = S} {cs} {ds} k d h o f =
    let T = state_from S (make_public k ∷ cs) in
    ap (λ x. is_public x (list_at (state_from T ds) k)) (sym (state_from-numbers S (make_public k ∷ cs)).0)
    ∙ public-clear (history-sound d (step h o)) f k (public-stays T ds k (public-made d h k o))

-- One pool of 30 nodes, three sets, the limits 40, 40 and 8. Set 0 has 10.0.0.0/16, 17 nodes, which leaves 13. Into set 2, once it is public-only and has 12.0.0.0/6, a merge
-- of set 0 gets 8; while it is empty 14, though the result is above its limit and its room too; were it not public-only 9, and with another limit 10.
abbrev pool3 : State
pool3 = empty_state (setup 4 0 3 30 (0 ∷ 0 ∷ 0 ∷ []) (40 ∷ 40 ∷ 8 ∷ []) 0)

abbrev net : ℕ → ℕ → Net
net a n = record { family = 4; hi = 0; lo = a * 2 ^ 24; len = n }

abbrev adds : ℕ → ℕ → ℕ → Call
adds k a n = relist (add k (net a n))

pub worked-order : (answers_from pool3 (relist (merge 2 0 0) ∷ adds 2 12 6 ∷ make_public 2 ∷ adds 0 10 16 ∷ []) ≡ (8, 0) ∷ (0, 7) ∷ (0, 0) ∷ (0, 17) ∷ [])
    × (answers_from pool3 (relist (merge 2 0 0) ∷ make_public 2 ∷ make_public 2 ∷ adds 0 10 16 ∷ []) ≡ (14, 0) ∷ (0, 0) ∷ (0, 0) ∷ (0, 17) ∷ [])
    × (answers_from pool3 (relist (merge 2 0 0) ∷ adds 0 10 16 ∷ []) ≡ (9, 0) ∷ (0, 17) ∷ [])
    × (answers_from pool3 (relist (merge 2 0 0) ∷ replan 2 0 40 ∷ adds 0 10 16 ∷ []) ≡ (10, 0) ∷ (0, 0) ∷ (0, 17) ∷ [])
    × (answers_from pool3 (make_public 0 ∷ adds 0 10 16 ∷ []) ≡ (8, 0) ∷ (0, 17) ∷ [])
unfolding state_from answers_from state_after change_rules with_set fits plan_rules mark_rules relist_rules relist_set net_rules refusal_of in_range width net_bits bits add_l held_l nodes_l before claimed_but
    claimed combine_rules merge_l simplify_l list_of trie_of simplify_t insert_t levels is_public overlaps inner inner_nets inner_nets4
worked-order = (refl, refl, refl, refl, refl)

-- 8.0.0.0/5 with and without the inner 10.0.0.0/8, into a public-only set: the result counts, not the arguments. Both merged, and what they have in common, get 14; the difference, which
-- takes just the inner part away, is granted, joined and apart.
abbrev pool4 : State
pool4 = empty_state (setup 4 0 3 90 (0 ∷ 0 ∷ 0 ∷ []) (40 ∷ 40 ∷ 40 ∷ []) 0)

abbrev both : List Call
both = make_public 2 ∷ adds 1 10 8 ∷ adds 0 8 5 ∷ []

abbrev answered : List (ℕ × ℕ)
answered = (0, 0) ∷ (0, 9) ∷ (0, 6) ∷ []

pub worked-results : (answers_from pool4 (relist (merge 2 0 1) ∷ both) ≡ (14, 0) ∷ answered)
    × (answers_from pool4 (relist (intersect 2 0 1) ∷ both) ≡ (14, 0) ∷ answered)
    × (answers_from pool4 (relist (exclude 2 0 1) ∷ both) ≡ (0, 11) ∷ answered)
    × (answers_from pool4 (relist (exclude_apart 2 0 1) ∷ both) ≡ (0, 11) ∷ answered)
    × (answers_from pool4 (relist (exclude 2 0 2) ∷ both) ≡ (14, 0) ∷ answered)
    × (answers_from pool4 (adds 2 0 0 ∷ both) ≡ (14, 0) ∷ answered)
    × (answers_from pool4 (adds 2 11 8 ∷ both) ≡ (0, 9) ∷ answered)
unfolding state_from answers_from state_after change_rules with_set mark_rules relist_rules relist_set net_rules refusal_of in_range width net_bits bits add_l remove_l held_l nodes_l before claimed_but claimed
    combine_rules merge_l intersect_l difference_l exclude_l simplify_l list_of trie_of simplify_t insert_t levels is_public overlaps inner inner_nets inner_nets4
worked-results = (refl, refl, refl, refl, refl, refl, refl)
