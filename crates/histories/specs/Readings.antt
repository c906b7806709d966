-- The calls that read a set, made in the pool in the words u and in the one in the words v.
--
--   SameReadings u v k      the calls that tell of the list of set k alone, the lookups aside, answer alike and leave a lent row alike
--   SoughtAlike r t         the answers r and t of supernet are the same but for the nodes that were read, of which t counts no more than r
--   HeldAlike, ReportAlike  the same of the answers of contains, and of held, which counts the nodes of a set
use Rattle.std.specs.Prelude.{List, ◌≡◌, ℕ, ◌≤◌, length, Option}
use Rattle.nets.specs.declared.Net.{Net}
use Rattle.pool_state.specs.Decode.{decode}
use Rattle.lookup.specs.Rules.{Sought, Held, empty_rule}
use Rattle.listing.specs.Calls.{list_rule, rows_after, next_rule}
use Rattle.netrows.specs.Rows.{row_rule, row_after}
use Rattle.rangelist.specs.Calls.{ranges_rule}
use Rattle.rangelist.specs.Calls.{rows_after as ranges_after}
use Rattle.walk.specs.Places.{nth_rule, last_rule}
use Rattle.setfile.specs.Calls.{save_rule, bytes_after}

pub record SameReadings (u v : List ℕ) (k : ℕ) : Type 0 where
  pub empty : empty_rule u k ≡ empty_rule v k
  pub list : (x : List ℕ) → (list_rule (decode u) k (length x) ≡ list_rule (decode v) k (length x)) × (rows_after x (decode u) k ≡ rows_after x (decode v) k)
  pub rows : (x : List Net) → (row_rule (decode u) k (length x) ≡ row_rule (decode v) k (length x)) × (row_after x (decode u) k ≡ row_after x (decode v) k)
  pub save : (x : List ℕ) → (save_rule (decode u) k (length x) ≡ save_rule (decode v) k (length x)) × (bytes_after x (decode u) k ≡ bytes_after x (decode v) k)
  pub ranges : (x : List ℕ) → (ranges_rule (decode u) k (length x) ≡ ranges_rule (decode v) k (length x))
      × (ranges_after x (decode u) k ≡ ranges_after x (decode v) k)
  pub next : (x : Option Net) → next_rule (decode u) k x ≡ next_rule (decode v) k x
  pub nth : (i : ℕ) → nth_rule (decode u) k i ≡ nth_rule (decode v) k i
  pub last : last_rule (decode u) k ≡ last_rule (decode v) k

-- the number, whether there is a member, the member, whether a bit was cut; the nodes that were read
pub record SoughtAlike (r t : ℕ × Sought) : Type 0 where
  pub number : t.0 ≡ r.0
  pub found : t.1.0 ≡ r.1.0
  pub member : t.1.1.0 ≡ r.1.1.0
  pub cut : t.1.1.1.1 ≡ r.1.1.1.1
  pub read : t.1.1.1.0 ≤ r.1.1.1.0

pub record HeldAlike (r t : ℕ × Held) : Type 0 where
  pub number : t.0 ≡ r.0
  pub contained : t.1.0 ≡ r.1.0
  pub cut : t.1.1.1 ≡ r.1.1.1
  pub read : t.1.1.0 ≤ r.1.1.0

pub record ReportAlike (r t : ℕ × (ℕ × ℕ)) : Type 0 where
  pub number : t.0 ≡ r.0
  pub nodes : t.1.0 ≤ r.1.0
  pub networks : t.1.1 ≡ r.1.1
