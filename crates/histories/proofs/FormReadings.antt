-- "and gives the same lists and lookups, node counts aside": the calls that read, in two pools that hold one state, one of them in the second form. So it is
-- after any calls that the first form grants throughout, from one layout (`second-form`, in FormLines). Assumes nothing.
use mathlib.Core.Path.{◌≡◌, refl}
use mathlib.Core.Bool.{Bool, true, false, cond}
use mathlib.Core.List.{List, [], ◌∷◌}
use Prim.Native.Nat.{ℕ, zero, suc, ◌≤◌}
use native.Mathlib.Omega.{arith}
use lib.Dec.{eqb}
use lib.ListN.{length, get_or}
use Rattle.nets.specs.Bits.{Bits}
use Rattle.nets.specs.Lists.{Found, found, missing, supernet_l, contains_l}
use Rattle.nets.specs.Networks.{net_bits, has_bit_past}
use Rattle.nets.specs.Refusals.{answered}
use Rattle.nets.specs.declared.Net.{Net}
use Rattle.pool_state.specs.Kept.{Form, first, second, held_l}
use Rattle.pool_state.specs.States.{SetState, State, held}
use Rattle.pool_state.specs.Decode.{decode}
use Rattle.pool_state.specs.Rules.{answer_on, no_set, free_rule, held_rule, plan_rule}
use Rattle.pool_state.specs.Changes.{set_at, list_at}
use Rattle.lookup.specs.Rules.{supernet_rule, contains_rule, unsought, unheld, set_no, lookup_no, found_as, steps_of}
use Rattle.lookup.proofs.OnLists.{supernet_rule-sound, contains_rule-sound, steps_of-le}
use Rattle.histories.specs.Histories.{SameList}
use Rattle.histories.specs.Readings.{SoughtAlike, HeldAlike, ReportAlike}
use Rattle.histories.specs.Forms.{sets_in, in_form, SecondOf, AlikeButNodes}
use Rattle.histories.proofs.Step.{net-same}
use Rattle.histories.proofs.SameReadings.{same-readings, same-equal}
use Rattle.histories.proofs.Queries.{all_no-same}
use Rattle.histories.proofs.Forms.{held-fewer, in_form-list, free_more}

-- "M-107's report ... never more than the old form's."
steps-fewer : (F : Form) (l : List Bits) (q : Bits) → steps_of second l q ≤ steps_of F l q
unfolding steps_of
steps-fewer first l q = steps_of-le second l q
steps-fewer second l q = omega arith

-- answers in which the count of nodes alone differs
sought-alike : (n f : ℕ) (x : Found) (s t : ℕ) (b : Bool) → t ≤ s → SoughtAlike (answered n unsought (found_as f x s b)) (answered n unsought (found_as f x t b))
sought-alike n f x s t b le = go (eqb n 0) x
  where
    go : (c : Bool) (y : Found) → SoughtAlike (n, cond c (found_as f y s b) unsought) (n, cond c (found_as f y t b) unsought)
    go true (found p) = record { number = refl; found = refl; member = refl; cut = refl; read = le }
    go true missing = record { number = refl; found = refl; member = refl; cut = refl; read = le }
    go false y = record { number = refl; found = refl; member = refl; cut = refl; read = omega arith }

held-alike : (n : ℕ) (x : Bool) (s t : ℕ) (b : Bool) → t ≤ s → HeldAlike (answered n unheld (x, (s, b))) (answered n unheld (x, (t, b)))
held-alike n x s t b le = go (eqb n 0)
  where
    go : (c : Bool) → HeldAlike (n, cond c (x, (s, b)) unheld) (n, cond c (x, (t, b)) unheld)
    go true = record { number = refl; contained = refl; cut = refl; read = le }
    go false = record { number = refl; contained = refl; cut = refl; read = omega arith }

report-alike : (n x y m : ℕ) → x ≤ y → ReportAlike (answered {A = ℕ × ℕ} n (0, 0) (y, m)) (answered {A = ℕ × ℕ} n (0, 0) (x, m))
report-alike n x y m le = go (eqb n 0)
  where
    go : (c : Bool) → ReportAlike (n, cond {A = ℕ × ℕ} c (y, m) (0, 0)) (n, cond {A = ℕ × ℕ} c (x, m) (0, 0))
    go true = record { number = refl; nodes = le; networks = refl }
    go false = record { number = refl; nodes = omega arith; networks = refl }

-- what is reported of a set, in either form
sets_in-plan : (F : Form) (k : ℕ) (ss : List SetState) → ((get_or ss k no_set).share ≡ (get_or (sets_in F ss) k no_set).share)
    × ((get_or ss k no_set).limit ≡ (get_or (sets_in F ss) k no_set).limit)
sets_in-plan F k [] = (refl, refl)
sets_in-plan F zero (s ∷ ss) = (refl, refl)
sets_in-plan F (suc k) (s ∷ ss) = sets_in-plan F k ss

sets_in-held : (k : ℕ) (ss : List SetState) → held (get_or (sets_in second ss) k no_set) ≤ held (get_or ss k no_set)
sets_in-held k [] = omega arith
sets_in-held zero (s ∷ ss) = held-fewer s.form s.list
sets_in-held (suc k) (s ∷ ss) = sets_in-held k ss

module _ {u v : List ℕ} (h : SecondOf u v) where
  abbrev S : State
  S = h.state

  abbrev T : State
  T = in_form second S

  lists : (k : ℕ) → SameList k S T
  lists = in_form-list S

  supernet-second : (k : ℕ) (n : Net) → SoughtAlike (supernet_rule u k n) (supernet_rule v k n)
  supernet-second k n =
      let s = lists k in
      let q = net_bits n in
      rw (supernet_rule-sound u S h.here k n, supernet_rule-sound v T h.there k n, s.known, net-same n k S T s, s.list)
      (sought-alike (lookup_no T k n) S.family (supernet_l (list_at T k) q) (steps_of S.form (list_at T k) q) (steps_of second (list_at T k) q) (has_bit_past n)
      (steps-fewer S.form (list_at T k) q))

  contains-second : (k : ℕ) (n : Net) → HeldAlike (contains_rule u k n) (contains_rule v k n)
  contains-second k n =
      let s = lists k in
      let q = net_bits n in
      rw (contains_rule-sound u S h.here k n, contains_rule-sound v T h.there k n, s.known, net-same n k S T s, s.list)
      (held-alike (lookup_no T k n) (contains_l (list_at T k) q) (steps_of S.form (list_at T k) q) (steps_of second (list_at T k) q) (has_bit_past n)
      (steps-fewer S.form (list_at T k) q))

  plan-second : (k : ℕ) → plan_rule (decode u) k ≡ plan_rule (decode v) k
  unfolding plan_rule answer_on
  plan-second k = let (x, y) = sets_in-plan second k S.sets in rw (h.here, h.there, (lists k).known, x, y)

  held-second : (k : ℕ) → ReportAlike (held_rule (decode u) k) (held_rule (decode v) k)
  unfolding held_rule answer_on
  held-second k =
      let s = lists k in
      let le = rw s.list at (sets_in-held k S.sets) in
      rw (h.here, h.there, s.known, s.list) (report-alike (set_no T k) (held (set_at T k)) (held_l (set_at S k).form (list_at T k)) (length (list_at T k)) le)

  free-second : ((free_rule (decode v)).0 ≡ (free_rule (decode u)).0) × ((free_rule (decode u)).1 ≤ (free_rule (decode v)).1)
  unfolding free_rule answer_on
  free-second = rw (h.here, h.there) (refl, free_more S)

  pub forms-alike : AlikeButNodes u v
  forms-alike = record {
    readings = λ k. same-readings u v h.here h.there (lists k);
    equal = λ j k. same-equal u v h.here h.there (lists j) k (lists k);
    supernet = supernet-second;
    contains = contains-second;
    many = λ k f qs n. all_no-same u v h.here h.there (lists k) f qs n;
    plan = plan-second;
    held = held-second;
    free = free-second;
  }
