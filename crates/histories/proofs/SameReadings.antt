-- Each call that reads a set depends on the family, on whether there is the set, and on its list: two pools in words that agree on these answer it alike, and
-- leave a lent row alike. What a lookup counts depends on the form too. Held and plan, which tell of nodes, share and limit, are not here. Assumes nothing.
use mathlib.Core.Bool.{false}
use mathlib.Core.List.{List}
use mathlib.Core.Path.{◌≡◌}
use Prim.Native.Nat.{ℕ}
use lib.ListN.{length}
use Rattle.nets.specs.Bits.{Bits}
use Rattle.nets.specs.Lists.{Found}
use Rattle.nets.specs.Refusals.{Rule}
use Rattle.nets.specs.declared.Net.{Net}
use Rattle.pool_state.specs.States.{State}
use Rattle.pool_state.specs.Decode.{Decoded, sound, decode}
use Rattle.pool_state.specs.Rules.{answer_on, left_on}
use Rattle.lookup.specs.Rules.{supernet_rule, contains_rule, empty_rule}
use Rattle.lookup.proofs.OnLists.{supernet_rule-sound, contains_rule-sound, empty_rule-sound}
use Rattle.compare.specs.Rules.{equal_rule}
use Rattle.listing.specs.Calls.{list_rules, list_rule, rows_after, nothing, next_rules, next_rule}
use Rattle.netrows.specs.Rows.{row_rules, row_rule, row_after}
use Rattle.rangelist.specs.Calls.{ranges_at, ranges_rules, ranges_rule}
use Rattle.rangelist.specs.Calls.{rows_after as ranges_after}
use Rattle.walk.specs.Places.{place_rule, nth_l, last_l}
use Rattle.setfile.specs.Calls.{save_rules, save_rule, bytes_after}
use Rattle.histories.specs.Histories.{SameList}
use Rattle.histories.specs.Readings.{SameReadings}
use Rattle.histories.proofs.Step.{net-same}
use Rattle.std.specs.Prelude.{Option, Some, None}

-- What is decoded as two states is answered alike where rules and values are the same.
module _ {D E : Decoded} {S T : State} (d : D ≡ sound S) (q : E ≡ sound T) where
  answers : {A : Type 0} (a : State → List Rule) (z : A) (f : State → A) → a S ≡ a T → f S ≡ f T → answer_on D a z f ≡ answer_on E a z f
  unfolding answer_on
  answers a z f x y = rw (d, q, x, y)

  leaves : {B : Type 0} (a : State → List Rule) (b : B) (g : State → B) → a S ≡ a T → g S ≡ g T → left_on D a b g ≡ left_on E a b g
  unfolding left_on
  leaves a b g x y = rw (d, q, x, y)

-- The rules of each call.
module _ {k : ℕ} {S T : State} (s : SameList k S T) where
  list_same : (n : ℕ) → list_rules k n S ≡ list_rules k n T
  unfolding list_rules
  list_same n = rw (s.known, s.list)

  row_same : (n : ℕ) → row_rules k n S ≡ row_rules k n T
  unfolding row_rules
  row_same n = rw (s.known, s.list)

  ranges-at : ranges_at S k ≡ ranges_at T k
  unfolding ranges_at
  ranges-at = rw (s.family, s.list)

  ranges-same : (n : ℕ) → ranges_rules k n S ≡ ranges_rules k n T
  unfolding ranges_rules
  ranges-same n = rw (s.known, ranges-at)

  save-same : (n : ℕ) → save_rules k n S ≡ save_rules k n T
  unfolding save_rules
  save-same n = rw (s.known, s.family, s.list)

  next-same : (x : Option Net) → next_rules k x S ≡ next_rules k x T
  unfolding next_rules
  next-same None = rw s.known
  next-same (Some n) = rw (s.known, net-same n k S T s)

module _ (u v : List ℕ) {S T : State} (here : decode u ≡ sound S) (there : decode v ≡ sound T) {k : ℕ} (s : SameList k S T) where
  empty-alike : empty_rule u k ≡ empty_rule v k
  empty-alike = rw (empty_rule-sound u S here k, empty_rule-sound v T there k, s.known, s.list)

  list-alike : (x : List ℕ) → (list_rule (decode u) k (length x) ≡ list_rule (decode v) k (length x)) × (rows_after x (decode u) k ≡ rows_after x (decode v) k)
  unfolding list_rule rows_after
  list-alike x = (
    answers here there _ 0 _ (list_same s (length x)) (rw s.list),
    leaves here there _ x _ (list_same s (length x)) (rw (s.family, s.list)),
  )

  rows_alike : (x : List Net) → (row_rule (decode u) k (length x) ≡ row_rule (decode v) k (length x)) × (row_after x (decode u) k ≡ row_after x (decode v) k)
  unfolding row_rule row_after
  rows_alike x = (
    answers here there _ 0 _ (row_same s (length x)) (rw s.list),
    leaves here there _ x _ (row_same s (length x)) (rw (s.family, s.list)),
  )

  save-alike : (x : List ℕ) → (save_rule (decode u) k (length x) ≡ save_rule (decode v) k (length x)) × (bytes_after x (decode u) k ≡ bytes_after x (decode v) k)
  unfolding save_rule bytes_after
  save-alike x = (
    answers here there _ 0 _ (save-same s (length x)) (rw (s.family, s.list)),
    leaves here there _ x _ (save-same s (length x)) (rw (s.family, s.list)),
  )

  ranges-alike : (x : List ℕ) → (ranges_rule (decode u) k (length x) ≡ ranges_rule (decode v) k (length x))
      × (ranges_after x (decode u) k ≡ ranges_after x (decode v) k)
  unfolding ranges_rule ranges_after
  ranges-alike x = (
    answers here there _ 0 _ (ranges-same s (length x)) (rw (ranges-at s)),
    leaves here there _ x _ (ranges-same s (length x)) (rw (ranges-at s)),
  )

  next-alike : (x : Option Net) → next_rule (decode u) k x ≡ next_rule (decode v) k x
  unfolding next_rule
  next-alike x = answers here there _ nothing _ (next-same s x) (rw (s.family, s.list))

  place-alike : (f : List Bits → Found) → place_rule f (decode u) k ≡ place_rule f (decode v) k
  unfolding place_rule
  place-alike f = answers here there _ nothing _ (rw s.known) (rw (s.family, s.list))

  pub same-readings : SameReadings u v k
  same-readings = record {
    empty = empty-alike;
    list = list-alike;
    rows = rows_alike;
    save = save-alike;
    ranges = ranges-alike;
    next = next-alike;
    nth = λ i. place-alike (λ l. nth_l l i);
    last = place-alike last_l;
  }

  -- against another set on whose list the two states agree
  pub same-equal : (j : ℕ) → SameList j S T → equal_rule (decode u) k j ≡ equal_rule (decode v) k j
  unfolding equal_rule
  same-equal j t = answers here there _ false _ (rw (s.known, t.known)) (rw (s.list, t.list))

  -- the lookups, in one form
  module _ (form : S.form ≡ T.form) (n : Net) where
    pub same-supernet : supernet_rule u k n ≡ supernet_rule v k n
    same-supernet = rw (supernet_rule-sound u S here k n, supernet_rule-sound v T there k n, s.known, net-same n k S T s, s.family, form, s.list)

    pub same-contains : contains_rule u k n ≡ contains_rule v k n
    same-contains = rw (contains_rule-sound u S here k n, contains_rule-sound v T there k n, s.known, net-same n k S T s, form, s.list)
