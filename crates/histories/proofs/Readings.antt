-- "demand 2 holds after each step": each call that reads a pool, after any history from words that hold a state. What it answers, and what it leaves of a lent row, is what its rule
-- says of the lists that the calls of the history make. A page is a row of zeros. The free report is free-exact in Histories. Assumes nothing.
use mathlib.Core.Bool.{false, cond}
use mathlib.Core.List.{List, [], ◌∷◌}
use mathlib.Core.Path.{◌≡◌}
use Prim.Native.Nat.{ℕ}
use lib.Dec.{eqb}
use lib.ListN.{length}
use Rattle.nets.specs.Bits.{Bits}
use Rattle.nets.specs.Lists.{Found, supernet_l, contains_l, next_l}
use Rattle.nets.specs.Networks.{net_bits, has_bit_past}
use Rattle.nets.specs.Refusals.{answered, Rule, first_no}
use Rattle.nets.specs.declared.Net.{Net}
use Rattle.nodes.specs.Words.{put}
use Rattle.pool_state.specs.States.{State, held}
use Rattle.pool_state.specs.Decode.{sound, decode}
use Rattle.pool_state.specs.Rules.{answer_on, left_on, unknown, held_rule, plan_rule}
use Rattle.pool_state.specs.Changes.{set_at, list_at}
use Rattle.lookup.specs.Rules.{supernet_rule, contains_rule, empty_rule, set_no, lookup_no, unsought, unheld, found_as, steps_of}
use Rattle.lookup.proofs.OnLists.{supernet_rule-sound, contains_rule-sound, empty_rule-sound}
use Rattle.compare.specs.Rules.{same_list, equal_rule}
use Rattle.trie_paths.specs.Rows.{rows_of}
use Rattle.listing.specs.Calls.{list_rules, list_rule, rows_after, place_from, nothing, next_rules, next_rule}
use Rattle.listing.specs.Calls.{found_as as follows_as}
use Rattle.netrows.specs.Rows.{filled, row_rules, row_rule, row_after}
use Rattle.ranges.specs.Addresses.{range_rows}
use Rattle.rangelist.specs.Calls.{ranges_at, ranges_rules, ranges_rule}
use Rattle.rangelist.specs.Calls.{rows_after as ranges_after}
use Rattle.walk.specs.Places.{place_rule, nth_l, nth_rule, last_l, last_rule}
use Rattle.setfile.specs.Calls.{file_at, save_rules, save_rule, bytes_after}
use Rattle.histories.specs.Calls.{Call}
use Rattle.histories.specs.Histories.{state_from, History}
use Rattle.histories.proofs.Histories.{history-sound}
use Rattle.std.specs.Prelude.{Option}

module _ {w : List ℕ} {S : State} (d : decode w ≡ sound S) {cs : List Call} {rs : List (ℕ × ℕ)} {v : List ℕ} (h : History w cs rs v) where
  abbrev now : State
  now = state_from S cs

  holds : decode v ≡ sound now
  holds = history-sound d h

  -- every rule of a call that reads is of this form
  answer-is : {A : Type 0} (a : State → List Rule) (z : A) (f : State → A) → answer_on (decode v) a z f ≡ answered (first_no (a now)) z (f now)
  unfolding answer_on
  answer-is a z f = rw holds

  left_is : {B : Type 0} (a : State → List Rule) (b : B) (g : State → B) → left_on (decode v) a b g ≡ cond (eqb (first_no (a now)) 0) (g now) b
  unfolding left_on
  left_is a b g = rw holds

  module _ (k : ℕ) where
    abbrev list : List Bits
    list = list_at now k

    -- the lookups
    pub history-supernet : (n : Net) → supernet_rule v k n ≡ answered (lookup_no now k n) unsought (found_as now.family (supernet_l list (net_bits n)) (steps_of now.form list (net_bits n)) (has_bit_past n))
    history-supernet n = supernet_rule-sound v now holds k n

    pub history-contains : (n : Net) → contains_rule v k n ≡ answered (lookup_no now k n) unheld (contains_l list (net_bits n), (steps_of now.form list (net_bits n), has_bit_past n))
    history-contains n = contains_rule-sound v now holds k n

    pub history-empty : empty_rule v k ≡ answered (set_no now k) false (eqb (length list) 0)
    history-empty = empty_rule-sound v now holds k

    -- the reports
    pub history-held : held_rule (decode v) k ≡ answered (first_no (unknown now k ∷ [])) (0, 0) (held (set_at now k), length list)
    unfolding held_rule
    history-held = answer-is _ (0, 0) _

    pub history-plan : plan_rule (decode v) k ≡ answered (first_no (unknown now k ∷ [])) (0, 0) ((set_at now k).share, (set_at now k).limit)
    unfolding plan_rule
    history-plan = answer-is _ (0, 0) _

    -- the list whole: as rows of numbers, as networks, as a file
    pub history-list : (u : List ℕ) → (list_rule (decode v) k (length u) ≡ answered (first_no (list_rules k (length u) now)) 0 (length list))
        × (rows_after u (decode v) k ≡ cond (eqb (first_no (list_rules k (length u) now)) 0) (put u 0 (rows_of now.family list)) u)
    unfolding list_rule rows_after
    history-list u = (answer-is _ 0 _, left_is _ u _)

    pub history-rows : (u : List Net) → (row_rule (decode v) k (length u) ≡ answered (first_no (row_rules k (length u) now)) 0 (length list))
        × (row_after u (decode v) k ≡ cond (eqb (first_no (row_rules k (length u) now)) 0) (filled now.family list u) u)
    unfolding row_rule row_after
    history-rows u = (answer-is _ 0 _, left_is _ u _)

    pub history-save : (u : List ℕ) → (save_rule (decode v) k (length u) ≡ answered (first_no (save_rules k (length u) now)) 0 (length (file_at now k)))
        × (bytes_after u (decode v) k ≡ cond (eqb (first_no (save_rules k (length u) now)) 0) (put u 0 (file_at now k)) u)
    unfolding save_rule bytes_after
    history-save u = (answer-is _ 0 _, left_is _ u _)

    -- its ranges
    pub history-ranges : (u : List ℕ) → (ranges_rule (decode v) k (length u) ≡ answered (first_no (ranges_rules k (length u) now)) 0 (length (ranges_at now k)))
        × (ranges_after u (decode v) k ≡ cond (eqb (first_no (ranges_rules k (length u) now)) 0) (put u 0 (range_rows (ranges_at now k))) u)
    unfolding ranges_rule ranges_after
    history-ranges u = (answer-is _ 0 _, left_is _ u _)

    -- one network of it
    pub history-next : (x : Option Net) → next_rule (decode v) k x ≡ answered (first_no (next_rules k x now)) nothing (follows_as now.family (next_l list (place_from x)))
    unfolding next_rule
    history-next x = answer-is _ nothing _

    place_is : (f : List Bits → Found) → place_rule f (decode v) k ≡ answered (first_no (unknown now k ∷ [])) nothing (follows_as now.family (f list))
    unfolding place_rule
    place_is f = answer-is _ nothing _

    pub history-nth : (i : ℕ) → nth_rule (decode v) k i ≡ answered (first_no (unknown now k ∷ [])) nothing (follows_as now.family (nth_l list i))
    history-nth i = place_is (λ l. nth_l l i)

    pub history-last : last_rule (decode v) k ≡ answered (first_no (unknown now k ∷ [])) nothing (follows_as now.family (last_l list))
    history-last = place_is last_l

    -- and the list of another set
    pub history-equal : (j : ℕ) → equal_rule (decode v) k j ≡ answered (first_no (unknown now k ∷ unknown now j ∷ [])) false (same_list list (list_at now j))
    unfolding equal_rule
    history-equal j = answer-is _ false _
