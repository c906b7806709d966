-- Whether a call is done, test by test.
use mathlib.Core.Bool.{Bool, true, false, cond}
use mathlib.Core.List.{List}
use mathlib.Core.Path.{◌≡◌, refl}
use Prim.Native.Nat.{ℕ, ◌+◌, ◌*◌, ◌≤◌, ◌<◌}
use native.Mathlib.Omega.{arith}
use lib.Dec.{leb}
use lib.ListN.{length}
use borrow.Author.Tests.{le-leb, lt-leb, leb-true}
use Rattle.calls_bytes.specs.Records.{call_at}
use Rattle.calls_bytes.specs.declared.Call.{Call}
use Rattle.calls_kinds.specs.Kinds.{Asked, asks_by, asks_of}
use Rattle.calls_kinds.specs.Places.{stop_of, stop_at}
use Rattle.calls_kinds.specs.declared.Kind.{Kind}
use Rattle.calls_kinds.specs.declared.Kind.TheVariants as kind

pub asks_by-most : (k : Kind) (b : ℕ) → (asks_by k b).bytes ≤ 8 * b
asks_by-most kind.Layout b = omega arith
asks_by-most kind.Report b = omega arith
asks_by-most kind.Change b = omega arith
asks_by-most kind.List b = omega arith
asks_by-most kind.Network b = omega arith
asks_by-most kind.WriteLine b = omega arith
asks_by-most kind.Save b = omega arith
asks_by-most kind.Load b = omega arith
asks_by-most kind.Lines b = omega arith
asks_by-most kind.Compare b = omega arith
asks_by-most kind.WriteWords b = omega arith
asks_by-most kind.ReadWords b = omega arith
asks_by-most kind.Salvage b = omega arith
asks_by-most kind.Unknown b = omega arith

-- a call by what it asks for
module _ (c : Call) (rows room : ℕ) {r : Asked} (e : r ≡ asks_of c) where
  pub stop-unknown : r.known ≡ false → 2 ≡ stop_of c rows room
  unfolding stop_of
  stop-unknown k = rw (← e, k)

  pub stop-full : r.known ≡ true → room < 28 + r.bytes → 3 ≡ stop_of c rows room
  unfolding stop_of
  stop-full k h = rw (← e, k, lt-leb (28 + r.bytes) room h)

  pub stop-rows : r.known ≡ true → 28 + r.bytes ≤ room → rows < r.rows → 4 ≡ stop_of c rows room
  unfolding stop_of
  stop-rows k h i = rw (← e, k, le-leb (28 + r.bytes) room h, lt-leb r.rows rows i)

  pub stop-none : r.known ≡ true → 28 + r.bytes ≤ room → r.rows ≤ rows → 5 ≡ stop_of c rows room
  unfolding stop_of
  stop-none k h i = rw (← e, k, le-leb (28 + r.bytes) room h, le-leb r.rows rows i)

-- the bytes from a place on
module _ (b : List ℕ) (at rows room : ℕ) where
  pub stop_at-whole : length b ≤ at → stop_at b at rows room ≡ 0
  unfolding stop_at
  stop_at-whole h = rw (le-leb (length b) at h)

  pub stop_at-cut : at < length b → length b < at + 35 → stop_at b at rows room ≡ 1
  unfolding stop_at
  stop_at-cut h i = rw (lt-leb (length b) at h, lt-leb (at + 35) (length b) i)

  pub stop_at-tail : at + 35 ≤ length b → length b < at + 35 + (call_at b at).tail → stop_at b at rows room ≡ 1
  unfolding stop_at
  stop_at-tail h i = rw (lt-leb (length b) at (omega arith), le-leb (at + 35) (length b) h, lt-leb (at + 35 + (call_at b at).tail) (length b) i)

  pub stop_at-call : at + 35 + (call_at b at).tail ≤ length b → stop_at b at rows room ≡ stop_of (call_at b at) rows room
  unfolding stop_at
  stop_at-call h = rw (lt-leb (length b) at (omega arith), le-leb (at + 35) (length b) (omega arith), le-leb (at + 35 + (call_at b at).tail) (length b) h)

-- a call that is done is whole, and what it asks for is there
pub record Goes (b : List ℕ) (at rows room : ℕ) : Type 0 where
  pub call : at + 35 + (call_at b at).tail ≤ length b
  pub answer : 28 + (asks_of (call_at b at)).bytes ≤ room
  pub lent : (asks_of (call_at b at)).rows ≤ rows

never : {A : Type 0} (m n : ℕ) → m < n → m ≡ n → A
never m n h e = absurd (omega arith)

-- the tests of stop_at, in their order
goes_by : (b : List ℕ) (at rows room : ℕ) (p q r k s t : Bool)
    → leb (at + 35 + (call_at b at).tail) (length b) ≡ r → leb (28 + (asks_of (call_at b at)).bytes) room ≡ s
    → leb (asks_of (call_at b at)).rows rows ≡ t
    → ◌≡◌ {A = ℕ} (cond p 0 (cond q (cond r (cond k (cond s (cond t 5 4) 3) 2) 1) 1)) 5 → Goes b at rows room
goes_by b at rows room true q r k s t e f g i = never 0 5 (omega arith) i
goes_by b at rows room false false r k s t e f g i = never 1 5 (omega arith) i
goes_by b at rows room false true false k s t e f g i = never 1 5 (omega arith) i
goes_by b at rows room false true true false s t e f g i = never 2 5 (omega arith) i
goes_by b at rows room false true true true false t e f g i = never 3 5 (omega arith) i
goes_by b at rows room false true true true true false e f g i = never 4 5 (omega arith) i
goes_by b at rows room false true true true true true e f g i = record { call = leb-true _ _ e; answer = leb-true _ _ f; lent = leb-true _ _ g }

pub goes : (b : List ℕ) (at rows room : ℕ) → stop_at b at rows room ≡ 5 → Goes b at rows room
unfolding stop_at stop_of
goes b at rows room i =
    goes_by b at rows room (leb (length b) at) (leb (at + 35) (length b)) (leb (at + 35 + (call_at b at).tail) (length b)) (asks_of (call_at b at)).known
    (leb (28 + (asks_of (call_at b at)).bytes) room) (leb (asks_of (call_at b at)).rows rows) refl refl refl i
