-- Merging sets of a pool leaves one list, in every order and grouping in which no step is refused. A granted merge leaves the merged list of its two sources,
-- a refused call and one that writes another set leave a list as it was; the rest is the law of nets on lists. Assumes nothing.
use mathlib.Core.Path.{◌≡◌, refl, sym, ap, ◌∙◌}
use mathlib.Core.Bool.{true}
use mathlib.Core.List.{List, [], ◌∷◌}
use Prim.Native.Nat.{ℕ, ◌*◌, ◌^◌}
use native.Mathlib.Omega.{arith}
use borrow.Author.Tests.{eq-eqb, ne_eqb}
use Rattle.nets.specs.Bits.{before, bits}
use Rattle.nets.specs.Tries.{levels, list_of, insert_t, trie_of, simplify_t}
use Rattle.nets.specs.Lists.{nodes_l, add_l, simplify_l, merge_l}
use Rattle.nets.specs.Networks.{width, net_bits, in_range, refusal_of}
use Rattle.nets.specs.Groupings.{Grouping, both, is_in, names, merged_l}
use Rattle.nets.specs.declared.Net.{Net}
use Rattle.nets.proofs.TrieOf.{is_list-within}
use Rattle.nets.proofs.MergeOrder.{merge-order, merged_l-same}
use Rattle.pool_state.specs.Kept.{held_l}
use Rattle.pool_state.specs.States.{SetState, State, claimed, claimed_but}
use Rattle.pool_state.specs.Decode.{sound, decode}
use Rattle.pool_state.specs.Rules.{setup, empty_state}
use Rattle.pool_state.specs.Changes.{list_at, with_set, change_rules, relist_rules, relist_set, net_rules}
use Rattle.combine.specs.Rules.{combine_rules}
use Rattle.histories.specs.Calls.{Relist, Call, add, merge, relist, writes, result_of, call_no, state_after, Outcome}
use Rattle.histories.specs.Histories.{state_from, answers_from, History, step}
use Rattle.histories.specs.Merges.{MergedSince, since, merged, other, replanned, made_public, refused}
use Rattle.histories.proofs.Step.{next_of-is, state_after-own}
use Rattle.histories.proofs.Histories.{history-answer, lists-valid, only-written, lists-stay, lists-marked}

-- The last step of a history, and the history up to the sets that are merged.
last_step : {z : List ℕ} {cs : List Call} {rs : List (ℕ × ℕ)} {c : Call} {r : ℕ × ℕ} {v : List ℕ} → History z (c ∷ cs) (r ∷ rs) v
    → (w : List ℕ) × History z cs rs w × Outcome w c r v
last_step (step {u = w} h o) = (w, h, o)

begun : {z : List ℕ} {cs ds : List Call} {ss : List (ℕ × ℕ)} {v : List ℕ} {x : ℕ} {g : Grouping} → History z ds ss v → MergedSince cs ds ss x g
    → (rs : List (ℕ × ℕ)) × (w : List ℕ) × History z cs rs w
begun {ss = ss} {v = v} h since = (ss, v, h)
begun h (merged m n) = begun (last_step h).1 m
begun h (other m ne) = begun (last_step h).1 m
begun h (replanned m) = begun (last_step h).1 m
begun h (made_public m) = begun (last_step h).1 m
begun h (refused m ne) = begun (last_step h).1 m

module _ {z : List ℕ} {S : State} (d : decode z ≡ sound S) where
  -- A granted call leaves its result in the set that it writes, and a refused one leaves all as it was.
  module _ {cs : List Call} {rs : List (ℕ × ℕ)} {w v : List ℕ} (c : Call) (h : History z cs rs w) {r : ℕ × ℕ} (o : Outcome w c r v) where
    number_is : call_no (state_from S cs) c ≡ r.0
    number_is = sym (ap (λ a. a.0) (history-answer d h c o))

    pub refused-state : (r.0 ≡ 0 → ⊥) → state_from S (c ∷ cs) ≡ state_from S cs
    unfolding state_from state_after
    refused-state ne = rw (ne_eqb (call_no (state_from S cs) c) 0 (λ q. ne (sym number_is ∙ q)))

  pub granted-list : {cs : List Call} {rs : List (ℕ × ℕ)} {w v : List ℕ} (c : Relist) → History z cs rs w → {r : ℕ × ℕ} → Outcome w (relist c) r v → r.0 ≡ 0
      → list_at (state_from S (relist c ∷ cs)) (writes c) ≡ result_of c (state_from S cs)
  unfolding state_from
  granted-list {cs} c h o q =
      let T = state_from S cs in
      let e = ap (λ (s : SetState). s.list) (state_after-own T (relist c)) in
      (rw (eq-eqb (call_no T (relist c)) 0 (number_is (relist c) h o ∙ q)) at e) ∙ ap (λ (s : SetState). s.list) (next_of-is T c)

  list_at-merged : {cs ds : List Call} {ss : List (ℕ × ℕ)} {v : List ℕ} {x : ℕ} {g : Grouping} → History z ds ss v → MergedSince cs ds ss x g
      → list_at (state_from S ds) x ≡ merged_l (list_at (state_from S cs)) g
  list_at-merged h since = refl
  list_at-merged h (merged {x = x} {a = a} {b = b} m n) =
      let (w, k, o) = last_step h in
      granted-list (merge x a b) k o refl ∙ rw (list_at-merged k m, list_at-merged k n)
  list_at-merged h (other {ds = ds} {x = x} {c = c} m ne) = ap (λ (s : SetState). s.list) (only-written S ds c x (λ e. ne (sym e))) ∙ list_at-merged (last_step h).1 m
  list_at-merged h (replanned {ds = ds} {x = x} {a = a} {b = b} m) = lists-stay S ds x a b x ∙ list_at-merged (last_step h).1 m
  list_at-merged h (made_public {ds = ds} {x = x} m) = lists-marked S ds x x ∙ list_at-merged (last_step h).1 m
  list_at-merged h (refused {x = x} {c = c} m ne) =
      let (w, k, o) = last_step h in
      ap (λ T. list_at T x) (refused-state c k o ne) ∙ list_at-merged k m

-- "merging three sets gives one list in every order and grouping in which no step is refused". Take two histories, from one state or from two. In the first the
-- sets ks, three or any other number, are merged into set x as they were after the calls cs, in any order and grouping and through any sets that were empty,
-- each step granted; in the second into set y, as they were after ds, in any other way. If the sets ks had the same lists then, x and y have the same list.
pub history-merge-order : {z t : List ℕ} {S T : State} {cs ds es fs : List Call} {rs ss : List (ℕ × ℕ)} {u v : List ℕ} {x y : ℕ} {a b c d : Grouping} (ks : List ℕ)
    → decode z ≡ sound S → History z es rs u → MergedSince cs es rs x (both a b) → names (both a b) ks ≡ true
    → decode t ≡ sound T → History t fs ss v → MergedSince ds fs ss y (both c d) → names (both c d) ks ≡ true
    → ((k : ℕ) → is_in ks k ≡ true → list_at (state_from S cs) k ≡ list_at (state_from T ds) k)
    → list_at (state_from S es) x ≡ list_at (state_from T fs) y
history-merge-order {S = S} {T = T} {cs} {ds} {a = a} {b = b} {c = c} {d = d} ks p h m i q g n j e =
    let (rs, w, k) = begun h m in
    list_at-merged p h m ∙ merge-order (width S.family) (list_at (state_from S cs)) (λ k'. is_list-within _ _ (lists-valid p k k')) a b c d ks i j
    ∙ merged_l-same (list_at (state_from S cs)) (list_at (state_from T ds)) (both c d) ks j e ∙ sym (list_at-merged q g n)

-- 10.0.0.0/8, 11.0.0.0/8 and 8.0.0.0/7 in sets 0, 1 and 2, merged through set 3 into set 4, and in another order through set 4 into set 3: 8.0.0.0/6 both
-- times. The other order through set 3, whose limit is 8, has a step refused.
abbrev pool5 : State
pool5 = empty_state (setup 4 0 5 100 (8 ∷ 8 ∷ 8 ∷ 8 ∷ 8 ∷ []) (40 ∷ 40 ∷ 40 ∷ 8 ∷ 40 ∷ []) 0)

abbrev net : ℕ → ℕ → Net
net a n = record { family = 4; hi = 0; lo = a * 2 ^ 24; len = n }

abbrev three : List Call
three = relist (add 2 (net 8 7)) ∷ relist (add 1 (net 11 8)) ∷ relist (add 0 (net 10 8)) ∷ []

abbrev added : List (ℕ × ℕ)
added = (0, 8) ∷ (0, 9) ∷ (0, 9) ∷ []

abbrev through3 : List Call
through3 = relist (merge 4 3 2) ∷ relist (merge 3 0 1) ∷ three

abbrev through4 : List Call
through4 = relist (merge 3 0 4) ∷ relist (merge 4 2 1) ∷ three

pub worked-merges : (answers_from pool5 through3 ≡ (0, 7) ∷ (0, 8) ∷ added)
    × (answers_from pool5 through4 ≡ (0, 7) ∷ (0, 10) ∷ added)
    × (answers_from pool5 (relist (merge 3 2 1) ∷ three) ≡ (9, 0) ∷ added)
    × (list_at (state_from pool5 through3) 4 ≡ net_bits (net 8 6) ∷ [])
    × (list_at (state_from pool5 through4) 3 ≡ net_bits (net 8 6) ∷ [])
unfolding state_from answers_from state_after change_rules with_set relist_rules relist_set net_rules refusal_of in_range width net_bits bits add_l held_l nodes_l before claimed_but claimed
    combine_rules merge_l simplify_l list_of trie_of simplify_t insert_t levels
worked-merges = (refl, refl, refl, refl, refl)

-- the same by the law, of all histories in which these merges are granted
pub worked-order : {z t : List ℕ} {rs ss : List (ℕ × ℕ)} {j k m n : ℕ} {u v : List ℕ}
    → decode z ≡ sound pool5 → History z through3 ((0, j) ∷ (0, k) ∷ rs) u
    → decode t ≡ sound pool5 → History t through4 ((0, m) ∷ (0, n) ∷ ss) v
    → list_at (state_from pool5 through3) 4 ≡ list_at (state_from pool5 through4) 3
worked-order d h e g =
    history-merge-order (0 ∷ 1 ∷ 2 ∷ []) d h (merged (merged since since) (other since (omega arith))) refl
    e g (merged (other since (omega arith)) (merged since since)) refl (λ k i. refl)
