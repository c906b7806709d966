-- One call from a state: the number of its answer, and the state that it leaves. Three laws have a case for each call that relists: the refusals of its arguments stand in the table before those of the limit
-- and the room (rules-other), its result is a list (is_list-result_of), and it depends on the lists of the sets that it names alone (call-lists). Assumes nothing.
use mathlib.Core.Path.{◌≡◌, refl, ap, ap₂, ◌∙◌}
use mathlib.Core.Bool.{Bool, true, false, not, cond, ◌&&◌}
use mathlib.Core.List.{List, [], ◌∷◌, ◌++◌}
use Prim.Native.Nat.{ℕ, ◌≤◌, ◌<◌}
use native.Mathlib.Decide.{ℕ_discrete}
use native.Mathlib.Omega.{arith}
use lib.Dec.{eqb, leb, ltb}
use lib.ListN.{length}
use borrow.Author.Tests.{leb-false, le-ltb, eq-eqb, eqb-true}
use Rattle.nets.specs.Bits.{Bits}
use Rattle.nets.specs.Lists.{within, is_list, merge_l, intersect_l, difference_l, exclude_l}
use Rattle.nets.specs.Networks.{width, net_bits}
use Rattle.nets.specs.Refusals.{Rule, first_no}
use Rattle.nets.specs.declared.Net.{Net}
use Rattle.nets.specs.declared.Refusal.TheVariants.{NoSet, WrongFamily, BadNetwork, OverLimit, BadRange, NotPublic}
use Rattle.nets.proofs.Strings.{and_left, and_right}
use Rattle.nets.proofs.Refused.{Few, first_no-append, first_no-few}
use Rattle.nets.proofs.TrieOf.{is_list-within, is_list-add}
use Rattle.nets.proofs.Simplifying.{is_list-simplify}
use Rattle.nets.proofs.Combining.{is_list-merge, is_list-intersect}
use Rattle.nets.proofs.Laws.{is_list-remove, is_list-difference, is_list-exclude}
use Rattle.pool_state.specs.Kept.{held_l}
use Rattle.pool_state.specs.States.{SetState, State, room_of, admits, is_state}
use Rattle.pool_state.specs.Decode.{least_of, sound, decode}
use Rattle.pool_state.specs.Rules.{answer_on, unknown}
use Rattle.pool_state.specs.Changes.{set_at, list_at, with_set, change_rules, change_rule, set_with, grant_rules, relist_rules, relist_set, relist_no, net_rules}
use Rattle.pool_state.proofs.Claims.{is_list-list_at}
use Rattle.pool_state.proofs.WithSet.{SamePlan, with_set-length, with_set-least, with_set-at, share-room_of, is_state-with_set}
use Rattle.pool_state.proofs.Decoded.{decode-state}
use Rattle.pool_state.proofs.Judged.{change_no-zero, relist_no-known}
use Rattle.pool_state.proofs.Past.{Past}
use Rattle.pool_state.proofs.Leaves.{after-cases, after-other, Keeps, Leaves, changed-leaves, after-plan, relist-keeps, net_rules-within}
use Rattle.combine.specs.Rules.{combine_rules}
use Rattle.replan.proofs.Outcomes.{plan-keeps, replan-lists}
use Rattle.make_public.proofs.Outcomes.{mark-keeps, make-public-lists}
use Rattle.setfile_format.specs.Files.{File, broken, file, read_file}
use Rattle.setfile.specs.Loading.{load_rules, file_list}
use Rattle.ranges.specs.Blocks.{add_range_l}
use Rattle.ranges.proofs.OfRanges.{is_list-add_range}
use Rattle.change_many.specs.Calls.{poured_l, file_rules, is_span, range_of, span_rules}
use Rattle.change_many.specs.declared.Span.{Span}
use Rattle.change_many.proofs.Lists.{is_list-poured}
use Rattle.change_many.proofs.Outcomes.{is_list-file}
use Rattle.setfile.proofs.LoadOutcomes.{is_list-load}
use Rattle.histories.specs.Calls.{Relist, Call, add, remove, simplify, merge, intersect, exclude, exclude_apart, load, pour, add_range, relist, replan, make_public, writes, target, names_one, args_of, args_no, result_of, rules_of, next_of, call_no, answer_of, state_after, Outcome}
use Rattle.histories.specs.Histories.{SameAt, SameList}

within-list_at : (S : State) (k : ℕ) → is_state S ≡ true → within (width S.family) (list_at S k) ≡ true
within-list_at S k e = is_list-within (width S.family) (list_at S k) (is_list-list_at S k e)

-- The refusals of a call's arguments stand in the table before those of the limit and the room.
combine-few : (to a b : ℕ) (S : State) → Few 9 (combine_rules to a b S)
unfolding combine_rules
combine-few to a b S = (omega arith, (omega arith, (omega arith, tt)))

net-few : (n : Net) (S : State) → Few 9 (net_rules n S)
unfolding net_rules
net-few n S = (omega arith, (omega arith, tt))

load-few : (x : File) (k : ℕ) (S : State) → Few 9 (load_rules x k S)
unfolding load_rules
load-few broken k S = (omega arith, tt)
load-few (file f l) k S = (omega arith, (omega arith, tt))

file-few : (x : File) (S : State) → Few 9 (file_rules x S)
unfolding file_rules
file-few broken S = (omega arith, tt)
file-few (file f l) S = (omega arith, tt)

few-other : (a : List Rule) → Few 9 a → first_no a ≡ 10 → ⊥
few-other a f e = omega (arith, first_no-few 9 a f)

-- a range has 12 among its own, which is none of the room either
span-other : (s : Span) (S : State) → first_no (span_rules s S) ≡ 10 → ⊥
unfolding span_rules
span-other s S = go (not (eqb s.family S.family)) (not (is_span s)) (ltb (range_of s).last (range_of s).first)
  where
    go : (x y z : Bool) → first_no ((x, WrongFamily) ∷ (y, BadNetwork) ∷ (z, BadRange) ∷ []) ≡ 10 → ⊥
    go true y z e = omega arith
    go false true z e = omega arith
    go false false true e = omega arith
    go false false false e = omega arith

rules-other : (c : Relist) (S : State) → args_no c S ≡ 10 → ⊥
rules-other (add k n) S = few-other (net_rules n S) (net-few n S)
rules-other (remove k n) S = few-other (net_rules n S) (net-few n S)
rules-other (simplify k) S = few-other [] tt
rules-other (merge to a b) S = few-other (combine_rules to a b S) (combine-few to a b S)
rules-other (intersect to a b) S = few-other (combine_rules to a b S) (combine-few to a b S)
rules-other (exclude to a b) S = few-other (combine_rules to a b S) (combine-few to a b S)
rules-other (exclude_apart to a b) S = few-other (combine_rules to a b S) (combine-few to a b S)
rules-other (load k d) S = few-other (load_rules (read_file d) k S) (load-few (read_file d) k S)
rules-other (pour x k d) S = few-other (file_rules (read_file d) S) (file-few (read_file d) S)
rules-other (add_range k s) S = span-other s S

-- Its result.
is_list-result_of : (c : Relist) (S : State) → is_state S ≡ true → args_no c S ≡ 0 → is_list (width S.family) (result_of c S) ≡ true
is_list-result_of (add k n) S e a = is_list-add (width S.family) (list_at S k) (net_bits n) (is_list-list_at S k e) (net_rules-within n S a)
is_list-result_of (remove k n) S e a = is_list-remove (width S.family) (list_at S k) (net_bits n) (is_list-list_at S k e) (net_rules-within n S a)
is_list-result_of (simplify k) S e a = is_list-simplify (width S.family) (list_at S k) (within-list_at S k e)
is_list-result_of (merge to x y) S e a = is_list-merge (width S.family) (list_at S x) (list_at S y) (within-list_at S x e) (within-list_at S y e)
is_list-result_of (intersect to x y) S e a = is_list-intersect (width S.family) (list_at S x) (list_at S y) (within-list_at S x e) (within-list_at S y e)
is_list-result_of (exclude to x y) S e a = is_list-difference (width S.family) (list_at S x) (list_at S y) (is_list-list_at S x e) (is_list-list_at S y e)
is_list-result_of (exclude_apart to x y) S e a = is_list-exclude (width S.family) (list_at S x) (list_at S y) (is_list-list_at S x e) (is_list-list_at S y e)
is_list-result_of (load k d) S e a = is_list-load d k S a
is_list-result_of (pour x k d) S e a = is_list-poured (width S.family) (list_at S k) (file_list (read_file d)) (is_list-list_at S k e) (is_list-file d S a) x
is_list-result_of (add_range k s) S e a = is_list-add_range (width S.family) (list_at S k) (range_of s) (is_list-list_at S k e)

-- Two states that agree on a set, or on its list.
pub same_at-list : {k : ℕ} {S T : State} → SameAt k S T → SameList k S T
same_at-list h = record { family = h.family; known = h.known; list = ap (λ (s : SetState). s.list) h.set }

pub net-same : (n : Net) (k : ℕ) (S T : State) → SameList k S T → net_rules n S ≡ net_rules n T
unfolding net_rules
net-same n k S T h = rw h.family

load_same : (x : File) (k : ℕ) (S T : State) → SameList k S T → load_rules x k S ≡ load_rules x k T
unfolding load_rules
load_same broken k S T h = refl
load_same (file f l) k S T h = rw (h.family, h.list)

file-same : (x : File) (k : ℕ) (S T : State) → SameList k S T → file_rules x S ≡ file_rules x T
unfolding file_rules
file-same broken k S T h = refl
file-same (file f l) k S T h = rw h.family

span_same : (s : Span) (k : ℕ) (S T : State) → SameList k S T → span_rules s S ≡ span_rules s T
unfolding span_rules
span_same s k S T h = rw h.family

-- on the lists of all sets that the call c names: where it names one set, of that one
abbrev SameNamed : Relist → State → State → Type 0
SameNamed c S T = (j : ℕ) → (names_one c ≡ true → j ≡ writes c) → SameList j S T

combine-same : (L : List Bits → List Bits → List Bits) (to a b : ℕ) (S T : State) → ((j : ℕ) → ((eqb a to && eqb b to) ≡ true → j ≡ to) → SameList j S T)
    → (combine_rules to a b S ≡ combine_rules to a b T) × (L (list_at S a) (list_at S b) ≡ L (list_at T a) (list_at T b))
unfolding combine_rules
combine-same L to a b S T h =
    let x = h a (λ e. eqb-true a to (and_left (eqb a to) (eqb b to) e)) in
    let y = h b (λ e. eqb-true b to (and_right (eqb a to) (eqb b to) e)) in
    rw ((h to (λ e. refl)).list, x.known, x.list, y.known, y.list) (refl, refl)

pub call-lists : (c : Relist) (S T : State) → SameNamed c S T → (args_of c S ≡ args_of c T) × (result_of c S ≡ result_of c T)
call-lists (add k n) S T h = let g = h k (λ e. refl) in (net-same n k S T g, rw g.list)
call-lists (remove k n) S T h = let g = h k (λ e. refl) in (net-same n k S T g, rw g.list)
call-lists (simplify k) S T h = (refl, rw (h k (λ e. refl)).list)
call-lists (merge to a b) S T h = combine-same merge_l to a b S T h
call-lists (intersect to a b) S T h = combine-same intersect_l to a b S T h
call-lists (exclude to a b) S T h = combine-same difference_l to a b S T h
call-lists (exclude_apart to a b) S T h = combine-same exclude_l to a b S T h
call-lists (load k d) S T h = (load_same (read_file d) k S T (h k (λ e. refl)), refl)
call-lists (pour x k d) S T h = let g = h k (λ e. refl) in (file-same (read_file d) k S T g, ap (λ l. poured_l x l (file_list (read_file d))) g.list)
call-lists (add_range k s) S T h = let g = h k (λ e. refl) in (span_same s k S T g, ap₂ (λ f l. add_range_l (width f) l (range_of s)) g.family g.list)

pub call_same : (c : Relist) (S T : State) → names_one c ≡ true → SameAt (writes c) S T → (args_of c S ≡ args_of c T) × (result_of c S ≡ result_of c T)
call_same c S T e h = call-lists c S T (λ j f. rw (f e) (same_at-list h))

-- A result within the share is judged by the mark and the limit of its set alone.
abbrev pub own_rules : State → ℕ → List Bits → List Rule
own_rules S k l = (not (admits S.family (set_at S k) l), NotPublic) ∷ (ltb (set_at S k).limit (held_l (set_at S k).form l), OverLimit) ∷ []

pub relist_no-share : (S : State) (k : ℕ) (a : List Rule) (l : List Bits) → is_state S ≡ true → (first_no a ≡ 0 → held_l (set_at S k).form l ≤ (set_at S k).share)
    → relist_no S k a l ≡ first_no (unknown S k ∷ (a ++ own_rules S k l))
unfolding change_rules
relist_no-share S k a l e f = go (leb (length S.sets) k) refl
  where
    args : k < length S.sets → (y : Bool) → eqb (first_no a) 0 ≡ y → cond y (first_no (grant_rules S k l)) (first_no a) ≡ cond y (first_no (own_rules S k l)) (first_no a)
    args lt true q = rw (le-ltb (room_of S k) (held_l (set_at S k).form l) (share-room_of S k e lt (held_l (set_at S k).form l) (f (eqb-true (first_no a) 0 q))))
    args lt false q = refl

    go : (x : Bool) → leb (length S.sets) k ≡ x → cond x 3 (first_no (a ++ grant_rules S k l)) ≡ cond x 3 (first_no (a ++ own_rules S k l))
    go true p = refl
    go false p = rw (first_no-append a (grant_rules S k l), first_no-append a (own_rules S k l)) (args (leb-false (length S.sets) k p) (eqb (first_no a) 0) refl)

-- which are no refusals for room
own-never : (p q : Bool) → first_no ((p, NotPublic) ∷ (q, OverLimit) ∷ []) ≡ 10 → ⊥
own-never true q e = omega arith
own-never false true e = omega arith
own-never false false e = omega arith

args-never : (a b : List Rule) → (first_no a ≡ 10 → ⊥) → (first_no b ≡ 10 → ⊥) → first_no (a ++ b) ≡ 10 → ⊥
args-never a b f g e = go (eqb (first_no a) 0) (rw (first_no-append a b) at e)
  where
    go : (y : Bool) → cond y (first_no b) (first_no a) ≡ 10 → ⊥
    go true q = g q
    go false q = f q

set-never : (x : Bool) (a : List Rule) → (first_no a ≡ 10 → ⊥) → first_no ((x, NoSet) ∷ a) ≡ 10 → ⊥
set-never true a f e = omega arith
set-never false a f e = f e

-- The number of the answer of a call that relists, and what becomes of the set.
module _ (S : State) (c : Relist) where
  pub call_no-is : call_no S (relist c) ≡ relist_no S (writes c) (args_of c S) (result_of c S)
  unfolding relist_rules
  call_no-is = refl

  pub next_of-is : next_of (relist c) S ≡ set_with (set_at S (writes c)) (result_of c S)
  unfolding relist_set
  next_of-is = refl

  pub call_no-share : is_state S ≡ true → held_l (set_at S (writes c)).form (result_of c S) ≤ (set_at S (writes c)).share → call_no S (relist c) ≡ 10 → ⊥
  call_no-share e le q =
      let k = writes c in
      let l = result_of c S in
      args-never (unknown S k ∷ args_of c S) (own_rules S k l) (set-never (leb (length S.sets) k) (args_of c S) (rules-other c S))
      (own-never (not (admits S.family (set_at S k) l)) (ltb (set_at S k).limit (held_l (set_at S k).form l)))
      (rw (call_no-is, relist_no-share S k (args_of c S) l e (λ z. le)) at q)

  -- where its arguments are right: 14 where the set is public-only and the result overlaps an inner network, and else by the nodes of its result
  pub call_no-granting : writes c < length S.sets → args_no c S ≡ 0 → call_no S (relist c) ≡ first_no (grant_rules S (writes c) (result_of c S))
  call_no-granting lt a = call_no-is ∙ relist_no-known S (writes c) (args_of c S) (result_of c S) lt ∙ rw a

  pub call_no-room : writes c < length S.sets → args_no c S ≡ 0 → admits S.family (set_at S (writes c)) (result_of c S) ≡ true → held_l (set_at S (writes c)).form (result_of c S) ≤ (set_at S (writes c)).limit
      → call_no S (relist c) ≡ cond (ltb (room_of S (writes c)) (held_l (set_at S (writes c)).form (result_of c S))) 10 0
  call_no-room lt a m le = call_no-granting lt a ∙ rw (m, le-ltb (set_at S (writes c)).limit (held_l (set_at S (writes c)).form (result_of c S)) le)

  -- it leaves every share, limit and mark
  pub state_after-plan : (j : ℕ) → SamePlan (set_at (state_after S (relist c)) j) (set_at S j)
  unfolding state_after relist_rules relist_set
  state_after-plan = after-plan S (writes c) (args_of c S) (result_of c S)

-- a call that does not relist leaves every list
pub state_after-lists : (S : State) (k x y j : ℕ) → list_at (state_after S (replan k x y)) j ≡ list_at S j
unfolding state_after
state_after-lists = replan-lists

pub state_after-marked : (S : State) (k j : ℕ) → list_at (state_after S (make_public k)) j ≡ list_at S j
unfolding state_after
state_after-marked = make-public-lists

-- The answer.
pub outcome-answer : (S : State) (c : Call) {w v : List ℕ} {r : ℕ × ℕ} → decode w ≡ sound S → Outcome w c r v → r ≡ answer_of S c
unfolding change_rule answer_on
outcome-answer S c d o = rw d at o.answer

-- where a call is granted, what becomes of the set may stand in its place
call-keeps : (S : State) (c : Call) → is_state S ≡ true → Keeps S (target c) (rules_of c S) (next_of c S)
unfolding relist_rules relist_set
call-keeps S (relist c) e = relist-keeps S (writes c) (args_of c S) (result_of c S) e (is_list-result_of c S e)
call-keeps S (replan k x y) e = plan-keeps S k x y e
call-keeps S (make_public k) e = mark-keeps S k e

-- no call makes an indexed set of another, or another of it
next-indexed : (S : State) (c : Call) → (next_of c S).indexed ≡ (set_at S (target c)).indexed
unfolding relist_set
next-indexed S (relist c) = refl
next-indexed S (replan k x y) = refl
next-indexed S (make_public k) = refl

-- The state afterwards: only the set that is written differs.
module _ (S : State) (c : Call) where
  state_after-cases : (P : State → Type 0) → (call_no S c ≡ 0 → P (with_set S (target c) (next_of c S))) → (eqb (call_no S c) 0 ≡ false → P S) → P (state_after S c)
  unfolding state_after
  state_after-cases = after-cases S (target c) (rules_of c S) (next_of c S)

  pub state_after-numbers : ((state_after S c).family ≡ S.family) × ((state_after S c).nodes ≡ S.nodes) × (length (state_after S c).sets ≡ length S.sets)
  unfolding with_set
  state_after-numbers =
      state_after-cases (λ T. (T.family ≡ S.family) × (T.nodes ≡ S.nodes) × (length T.sets ≡ length S.sets))
      (λ q. (refl, refl, with_set-length S (target c) (next_of c S)))
      (λ q. (refl, refl, refl))

  pub state_after-form : (state_after S c).form ≡ S.form
  unfolding with_set
  state_after-form = state_after-cases (λ T. T.form ≡ S.form) (λ q. refl) (λ q. refl)

  -- and so does the smallest buffer
  pub state_after-least : least_of (state_after S c) ≡ least_of S
  state_after-least = state_after-cases (λ T. least_of T ≡ least_of S) (λ q. with_set-least S (target c) (next_of c S) (next-indexed S c)) (λ q. refl)

  pub state_after-other : (j : ℕ) → (j ≡ target c → ⊥) → set_at (state_after S c) j ≡ set_at S j
  unfolding state_after
  state_after-other = after-other S (target c) (rules_of c S) (next_of c S)

  pub state_after-own : set_at (state_after S c) (target c) ≡ cond (eqb (call_no S c) 0) (next_of c S) (set_at S (target c))
  state_after-own =
      state_after-cases (λ T. set_at T (target c) ≡ cond (eqb (call_no S c) 0) (next_of c S) (set_at S (target c)))
      (λ z. rw (eq-eqb (call_no S c) 0 z) (with_set-at S (target c) (next_of c S) (change_no-zero S (target c) (rules_of c S) z).0))
      (λ q. rw q)

  -- a mark never goes
  next-public : (set_at S (target c)).public ≡ true → (next_of c S).public ≡ true
  unfolding relist_set
  next-public p = go c p
    where
      go : (x : Call) → (set_at S (target x)).public ≡ true → (next_of x S).public ≡ true
      go (relist x) q = q
      go (replan k x y) q = q
      go (make_public k) q = refl

  pub state_after-public : (j : ℕ) → (set_at S j).public ≡ true → (set_at (state_after S c) j).public ≡ true
  state_after-public j p = at (ℕ_discrete j (target c))
    where
      own : (b : Bool) → (set_at S (target c)).public ≡ true → (cond b (next_of c S) (set_at S (target c))).public ≡ true
      own true q = next-public q
      own false q = q

      at : Dec (j ≡ target c) → (set_at (state_after S c) j).public ≡ true
      at (yes e) = rw (e, state_after-own) (own (eqb (call_no S c) 0) (rw e at p))
      at (no ne) = rw (state_after-other j ne) p

  -- and what is indexed stays so, with no other
  pub state_after-indexed : (j : ℕ) → (set_at (state_after S c) j).indexed ≡ (set_at S j).indexed
  state_after-indexed j = at (ℕ_discrete j (target c))
    where
      own : (b : Bool) → (cond b (next_of c S) (set_at S (target c))).indexed ≡ (set_at S (target c)).indexed
      own true = next-indexed S c
      own false = refl

      at : Dec (j ≡ target c) → (set_at (state_after S c) j).indexed ≡ (set_at S j).indexed
      at (yes e) = rw (e, state_after-own) (own (eqb (call_no S c) 0))
      at (no ne) = rw (state_after-other j ne)

  -- it keeps the rules, and the words hold it; no word past the smallest buffer is touched
  pub is_state-after : is_state S ≡ true → is_state (state_after S c) ≡ true
  is_state-after e =
      state_after-cases (λ T. is_state T ≡ true)
      (λ z. let (lt, y) = change_no-zero S (target c) (rules_of c S) z in let (l, g, m, q) = call-keeps S c e lt y in is_state-with_set S (target c) e lt (next_of c S) q m l g)
      (λ q. e)

  module _ {w v : List ℕ} {r : ℕ × ℕ} (d : decode w ≡ sound S) (o : Outcome w c r v) where
    leaves : Leaves w S (target c) (rules_of c S) (next_of c S) v
    leaves = changed-leaves d (call-keeps S c (decode-state w S d)) o

    pub outcome-decode : decode v ≡ sound (state_after S c)
    unfolding state_after
    outcome-decode = leaves.holds

    pub outcome-past : Past (least_of S) w v
    outcome-past = leaves.past
