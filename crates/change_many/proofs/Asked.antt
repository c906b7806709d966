-- What the calls ask first: the rules of a file and of a range, and a law for each return by the tests on the way to it. Assumes nothing.
use mathlib.Core.Bool.{Bool, true, false}
use mathlib.Core.List.{List}
use mathlib.Core.Path.{◌≡◌, refl, sym, ◌∙◌}
use Prim.Native.Nat.{ℕ, ◌^◌, ◌<◌}
use native.Mathlib.Decide.{ℕ_discrete}
use native.Mathlib.Omega.{arith}
use lib.Arith.{digits_lt}
use lib.Dec.{ltb}
use borrow.Author.Tests.{lt-ltb, le-ltb, ltb-true, ltb-false, eq-eqb, ne_eqb}
use Rattle.nets.specs.Bits.{Bits}
use Rattle.nets.specs.Networks.{is_family, width}
use Rattle.nets.specs.Refusals.{number, first_no}
use Rattle.nets.specs.declared.Refusal.{Refusal}
use Rattle.nets.specs.declared.Refusal.TheVariants.{BadFile, WrongFamily, BadNetwork, BadRange}
use Rattle.nets.proofs.Answers.{number-some}
use Rattle.nets.proofs.Numbers.{width-4, width-6}
use Rattle.nets.proofs.Strings.{and_right}
use Rattle.nodes.specs.declared.seats.Seat.{Seat}
use Rattle.ranges.specs.Addresses.{address_of}
use Rattle.ranges.specs.declared.addresses.Address.{Address}
use Rattle.pool_state.specs.States.{State}
use Rattle.pool_state.specs.Decode.{decode}
use Rattle.pool_state.specs.Steps.{Refuses}
use Rattle.pool_state.specs.declared.Survey.{Survey}
use Rattle.pool_state.proofs.Decoded.{decode-header}
use Rattle.pool_state.proofs.Header.{is_header-header}
use Rattle.pool_state.proofs.Seats.{Seats, seats-family}
use Rattle.pool_state.proofs.Seen.{seen, seen-header}
use Rattle.pool_state.proofs.Returns.{changed, change-seat, change-args}
use Rattle.setfile_format.specs.Files.{File, broken, file, read_file}
use Rattle.setfile_order.specs.Flow.{checked_as, check_rule}
use Rattle.setfile_order.proofs.Answers.{checked-broken, checked-file}
use Rattle.change_many.specs.Calls.{file_rules, is_span, range_of, span_rules}
use Rattle.change_many.specs.Steps.{AsksFile, AsksSpan}
use Rattle.change_many.specs.declared.Span.{Span}
use Rattle.std.specs.Prelude.{Option, Ok, Err, Some, None}

-- The rules of a file.
module _ (x : File) (S : State) where
  pub file_rules-broken : x ≡ broken → first_no (file_rules x S) ≡ 5
  unfolding file_rules
  file_rules-broken e = rw e

  module _ {f : ℕ} {l : List Bits} (e : x ≡ file f l) where
    pub file_rules-other : (f ≡ S.family → ⊥) → first_no (file_rules x S) ≡ 6
    unfolding file_rules
    file_rules-other ne = rw (e, ne_eqb f S.family ne)

    pub file_rules-right : f ≡ S.family → first_no (file_rules x S) ≡ 0
    unfolding file_rules
    file_rules-right own = rw (e, eq-eqb f S.family own)

-- What `ask_file` finds.
pub file-refused : {w : List ℕ} {k : ℕ} (d : List ℕ) (x : Refusal) → Refuses (decode w) k (number x) → AsksFile w k d (Err x)
file-refused {w} {k} d x h g = changed (change-seat (file_rules (read_file d)) g w k h)

module _ {w : List ℕ} {k : ℕ} {v : Survey} {s : Seat} (d : List ℕ) (h : Seats w k v s) where
  file-args : (x : Refusal) → ((S : State) → s.family ≡ S.family → first_no (file_rules (read_file d) S) ≡ number x) → AsksFile w k d (Err x)
  file-args x q g =
      let (S, i) = seen h.surveyed in
      changed (change-args (file_rules (read_file d)) g i (q S (seats-family h ∙ (decode-header w S i.decoded).family)) (number-some x))

  module _ {r : (Option (ℕ × ℕ))} (c : checked_as r ≡ check_rule (read_file d)) where
    pub file-broken : r ≡ None → AsksFile w k d (Err BadFile)
    file-broken i = file-args BadFile (λ S o. file_rules-broken (read_file d) S (checked-broken (read_file d) c i))

    module _ {f n : ℕ} (i : r ≡ Some (f, n)) where
      pub file-family : (f ≡ s.family → ⊥) → AsksFile w k d (Err WrongFamily)
      file-family ne = let its = checked-file (read_file d) c i in file-args WrongFamily (λ S o. file_rules-other (read_file d) S its.1 (λ z. ne (z ∙ sym o)))

      pub file-ready : f ≡ s.family → AsksFile w k d (Ok (v, f))
      file-ready own = let (l, reads, nodes) = checked-file (read_file d) c i in record { surveyed = h.surveyed; list = l; reads = reads; family = own ∙ seats-family h }

-- An address is within the width of its family.
module _ (f : ℕ) (a : Address) where
  pub width-more : (f ≡ 4 → ⊥) → a.hi < 2 ^ 64 → a.lo < 2 ^ 64 → true ≡ ltb (address_of a) (2 ^ width f)
  width-more e h l = rw (width-6 f e) (sym (lt-ltb (address_of a) (2 ^ 128) (digits_lt h l)))

  pub width-high : f ≡ 4 → (a.hi ≡ 0 → ⊥) → false ≡ ltb (address_of a) (2 ^ width f)
  width-high e h = rw (width-4 f e) (sym (le-ltb (address_of a) (2 ^ 32) (omega arith)))

  pub width_low : f ≡ 4 → a.hi ≡ 0 → ltb a.lo 0x100000000 ≡ ltb (address_of a) (2 ^ width f)
  width_low e h = let v : address_of a ≡ a.lo = omega arith in rw (width-4 f e, v)

  pub width-words : f ≡ 4 → {r : Bool} → (a.hi ≡ 0 → r ≡ ltb a.lo 0x100000000) → ((a.hi ≡ 0 → ⊥) → r ≡ false) → r ≡ ltb (address_of a) (2 ^ width f)
  width-words f4 {r} low high = go (ℕ_discrete a.hi 0)
    where
      go : Dec (a.hi ≡ 0) → r ≡ ltb (address_of a) (2 ^ width f)
      go (yes e) = low e ∙ width_low f4 e
      go (no n) = high n ∙ width-high f4 n

-- Which of two addresses is smaller.
pub smaller-high : (a b : Address) → a.lo < 2 ^ 64 → b.lo < 2 ^ 64 → (a.hi ≡ b.hi → ⊥) → ltb b.hi a.hi ≡ ltb (address_of b) (address_of a)
smaller-high a b k l e = go (ltb b.hi a.hi) refl
  where
    go : (x : Bool) → ltb b.hi a.hi ≡ x → x ≡ ltb (address_of b) (address_of a)
    go true i = sym (lt-ltb (address_of b) (address_of a) (omega (arith, ltb-true b.hi a.hi i)))
    go false i = sym (le-ltb (address_of b) (address_of a) (omega (arith, ltb-false b.hi a.hi i)))

pub smaller-low : (a b : Address) → a.hi ≡ b.hi → ltb b.lo a.lo ≡ ltb (address_of b) (address_of a)
smaller-low a b e = go (ltb b.lo a.lo) refl
  where
    go : (x : Bool) → ltb b.lo a.lo ≡ x → x ≡ ltb (address_of b) (address_of a)
    go true i = sym (lt-ltb (address_of b) (address_of a) (omega (arith, ltb-true b.lo a.lo i)))
    go false i = sym (le-ltb (address_of b) (address_of a) (omega (arith, ltb-false b.lo a.lo i)))

pub smaller-words : (a b : Address) → a.lo < 2 ^ 64 → b.lo < 2 ^ 64 → {r : Bool} → (a.hi ≡ b.hi → r ≡ ltb b.lo a.lo) → ((a.hi ≡ b.hi → ⊥) → r ≡ ltb b.hi a.hi)
    → r ≡ ltb (address_of b) (address_of a)
smaller-words a b k l {r} low high = go (ℕ_discrete a.hi b.hi)
  where
    go : Dec (a.hi ≡ b.hi) → r ≡ ltb (address_of b) (address_of a)
    go (yes e) = low e ∙ smaller-low a b e
    go (no n) = high n ∙ smaller-high a b k l n

pub span-not : (s : Span) {x : Bool} → x ≡ ltb (address_of s.first) (2 ^ width s.family) → x ≡ false → false ≡ is_span s
unfolding is_span
span-not s e h = rw (← e, h)

pub span-is : (s : Span) {x y : Bool} → x ≡ ltb (address_of s.first) (2 ^ width s.family) → x ≡ true → y ≡ ltb (address_of s.last) (2 ^ width s.family) → y ≡ is_span s
unfolding is_span
span-is s e h g = rw (← e, h) g

-- The rules of a range.
module _ (s : Span) (S : State) where
  pub span_rules-other : (s.family ≡ S.family → ⊥) → first_no (span_rules s S) ≡ 6
  unfolding span_rules
  span_rules-other ne = rw (ne_eqb s.family S.family ne)

  module _ (own : s.family ≡ S.family) where
    pub span_rules-outside : is_span s ≡ false → first_no (span_rules s S) ≡ 7
    unfolding span_rules
    span_rules-outside e = rw (eq-eqb s.family S.family own, e)

    pub span_rules-backward : is_span s ≡ true → ltb (range_of s).last (range_of s).first ≡ true → first_no (span_rules s S) ≡ 12
    unfolding span_rules
    span_rules-backward e g = rw (eq-eqb s.family S.family own, e, g)

    pub span_rules-right : is_span s ≡ true → ltb (range_of s).last (range_of s).first ≡ false → first_no (span_rules s S) ≡ 0
    unfolding span_rules
    span_rules-right e g = rw (eq-eqb s.family S.family own, e, g)

-- What `ask_span` finds.
pub span-refused : {w : List ℕ} {k : ℕ} (s : Span) (x : Refusal) → Refuses (decode w) k (number x) → AsksSpan w k s (Err x)
span-refused {w} {k} s x h g = changed (change-seat (span_rules s) g w k h)

module _ {w : List ℕ} {k : ℕ} {v : Survey} {t : Seat} (s : Span) (h : Seats w k v t) where
  span-args : (x : Refusal) → ((S : State) → t.family ≡ S.family → first_no (span_rules s S) ≡ number x) → AsksSpan w k s (Err x)
  span-args x q g =
      let (S, i) = seen h.surveyed in
      changed (change-args (span_rules s) g i (q S (seats-family h ∙ (decode-header w S i.decoded).family)) (number-some x))

  pub span-family : (s.family ≡ t.family → ⊥) → AsksSpan w k s (Err WrongFamily)
  span-family ne = span-args WrongFamily (λ S o. span_rules-other s S (λ z. ne (z ∙ sym o)))

  module _ (own : s.family ≡ t.family) {x : Bool} (e : x ≡ is_span s) where
    pub span-outside : x ≡ false → AsksSpan w k s (Err BadNetwork)
    span-outside i = span-args BadNetwork (λ S o. span_rules-outside s S (own ∙ o) (sym e ∙ i))

    module _ (i : x ≡ true) {y : Bool} (j : y ≡ ltb (range_of s).last (range_of s).first) where
      pub span-backward : y ≡ true → AsksSpan w k s (Err BadRange)
      span-backward q = span-args BadRange (λ S o. span_rules-backward s S (own ∙ o) (sym e ∙ i) (sym j ∙ q))

      pub span-ready : y ≡ false → AsksSpan w k s (Ok v)
      unfolding is_span
      span-ready q =
          let is = sym e ∙ i in
          let f = width s.family in
          record {
            surveyed = h.surveyed;
            right = λ S d. span_rules-right s S (own ∙ seats-family h ∙ (decode-header w S d).family) is (sym j ∙ q);
            family = own ∙ seats-family h;
            is_family = rw (own ∙ seats-family h) (is_header-header w (seen-header (seen h.surveyed).1).known).family;
            order = ltb-false (address_of s.last) (address_of s.first) (sym j ∙ q);
            high = ltb-true (address_of s.last) (2 ^ f) (and_right (ltb (address_of s.first) (2 ^ f)) (ltb (address_of s.last) (2 ^ f)) is);
          }
