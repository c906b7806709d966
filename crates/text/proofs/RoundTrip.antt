-- What is written reads back to the cleared network, and no other line reads as those numbers: each of them is known by its value. So of all lines of the
-- addresses that a network stands for, the written one alone has no bit past the length, and all of them are written as that one. Assumes nothing.
use mathlib.Core.Bool.{Bool, true, false, cond, ◌&&◌}
use mathlib.Core.List.{List}
use mathlib.Core.Logic.{◌↔◌}
use mathlib.Core.Path.{◌≡◌, refl, ap, sym, ◌∙◌}
use Prim.Native.Nat.{ℕ, ◌+◌, ◌*◌, ◌/◌, ◌%◌, ◌^◌, ◌≤◌, ◌<◌}
use native.Mathlib.Omega.{arith}
use lib.Dec.{eqb, leb, ltb}
use lib.ListN.{length, take}
use borrow.Author.Tests.{leb-true, ltb-true, eqb-true, le-leb, lt-ltb}
use Rattle.nets.proofs.Answers.{answered-granted}
use Rattle.nets.proofs.Numbers.{refusal_of-cleared, cleared-one, cleared-cleared, family-cleared}
use Rattle.nets.proofs.Strings.{and_left, and_right}
use Rattle.nets.proofs.TwoWords.{in_range-4, cleared-same, has_bit_past-cleared}
use Rattle.nets.specs.Networks.{in_range, refusal_of, net_bits, cleared, has_bit_past, taken_as, no_entry, entered_as, entered}
use Rattle.nets.specs.Refusals.{number}
use Rattle.nets.specs.declared.Net.{Net}
use Rattle.nets.specs.declared.Refusal.{Refusal}
use Rattle.text_decimal.specs.Decimal.{decimal, digits_of}
use Rattle.text.specs.DecOctet.{is_dec_octet}
use Rattle.text.specs.Ipv4.{address, ipv4, IsLine, read_line, octet_of, line_as, line_of}
use Rattle.text.specs.Answers.{entered_line, line_refusal, Wrote}
use Rattle.text_decimal.proofs.Numbers.{is_number-is}
use Rattle.text_decimal.proofs.Writing.{length-digits_of-two, is_number-digits_of, decimal-digits_of}
use Rattle.text.proofs.Writing.{length-line_as}
use Rattle.text.proofs.Digits.{number-known}
use Rattle.text.proofs.DecOctet.{octet-number, number-octet}
use Rattle.text.proofs.Grammar.{read_line-accepts}
use Rattle.text.proofs.Answers.{in_range-granted, taken_in-network, taken_in-refused, over-granted}
use Rattle.std.specs.Prelude.{Result, Ok, Err}

-- The numbers of an IPv4 network.
record Ipv4 (n : Net) : Type 0 where
  family : n.family ≡ 4
  hi : n.hi ≡ 0
  lo : n.lo < 2 ^ 32
  len : n.len ≤ 32

ipv4-is : (n : Net) → n.family ≡ 4 → refusal_of n ≡ 0 → Ipv4 n
ipv4-is n f e =
    let h : (leb n.len 32 && (eqb n.hi 0 && ltb n.lo (2 ^ 32))) ≡ true = sym (in_range-4 n f) ∙ in_range-granted n f e in
    let g = and_right (leb n.len 32) (eqb n.hi 0 && ltb n.lo (2 ^ 32)) h in
    record {
      family = f;
      hi = eqb-true n.hi 0 (and_left (eqb n.hi 0) (ltb n.lo (2 ^ 32)) g);
      lo = ltb-true n.lo (2 ^ 32) (and_right (eqb n.hi 0) (ltb n.lo (2 ^ 32)) g);
      len = leb-true n.len 32 (and_left (leb n.len 32) (eqb n.hi 0 && ltb n.lo (2 ^ 32)) h);
    }

ipv4-known : {n : Net} {a k : ℕ} → Ipv4 n → n.lo ≡ a → n.len ≡ k → n ≡ ipv4 a k
ipv4-known i e g = λ j. record { family = i.family j; hi = i.hi j; lo = e j; len = g j }

refusal_of-ipv4 : (a k : ℕ) → a < 2 ^ 32 → k ≤ 32 → refusal_of (ipv4 a k) ≡ 0
unfolding refusal_of
refusal_of-ipv4 a k h g = rw (in_range-4 (ipv4 a k) refl, le-leb k 32 g, lt-ltb a (2 ^ 32) h)

-- an address is that of its four bytes
address-octets : (x : ℕ) → x < 2 ^ 32 → x ≡ address (x / 2 ^ 24 % 256) (x / 2 ^ 16 % 256) (x / 2 ^ 8 % 256) (x / 2 ^ 0 % 256)
address-octets x h =
    let a : x / 2 ^ 24 % 256 ≡ x / 2 ^ 24 = omega arith in
    let b : x / 2 ^ 16 ≡ x / 2 ^ 24 * 256 + x / 2 ^ 16 % 256 = omega arith in
    let c : x / 2 ^ 8 ≡ x / 2 ^ 16 * 256 + x / 2 ^ 8 % 256 = omega arith in
    let d : x ≡ x / 2 ^ 8 * 256 + x / 2 ^ 0 % 256 = omega arith in
    join (x / 2 ^ 24) (x / 2 ^ 16) (x / 2 ^ 8) x (x / 2 ^ 24 % 256) (x / 2 ^ 16 % 256) (x / 2 ^ 8 % 256) (x / 2 ^ 0 % 256) a b c d
  where
    join : (w z y x a b c d : ℕ) → a ≡ w → z ≡ w * 256 + b → y ≡ z * 256 + c → x ≡ y * 256 + d → x ≡ address a b c d
    join w z y x a b c d h i j k = omega arith

-- The written line is a line of its network.
is_dec_octet-octet_of : (a k : ℕ) → is_dec_octet (octet_of a k) ≡ true
is_dec_octet-octet_of a k =
    let x = a / 2 ^ (8 * k) % 256 in
    let h : x < 256 = omega arith in
    number-octet (octet_of a k) (is_number-digits_of 255 x (omega arith) (omega arith))

pub line_as-is : (n : Net) → n.family ≡ 4 → refusal_of n ≡ 0 → IsLine (line_as n) n
unfolding line_as
line_as-is n f e =
    let i = ipv4-is n f e in
    record {
      a = octet_of n.lo 3;
      b = octet_of n.lo 2;
      c = octet_of n.lo 1;
      d = octet_of n.lo 0;
      len = digits_of n.len;
      a-rule = is_dec_octet-octet_of n.lo 3;
      b-rule = is_dec_octet-octet_of n.lo 2;
      c-rule = is_dec_octet-octet_of n.lo 1;
      d-rule = is_dec_octet-octet_of n.lo 0;
      len-rule = is_number-digits_of 32 n.len (omega (arith, i.len)) i.len;
      bytes = refl;
      network = ipv4-known i (simp decimal-digits_of (address-octets n.lo i.lo)) (sym (decimal-digits_of n.len));
    }

pub read_line-line_as : (n : Net) → n.family ≡ 4 → refusal_of n ≡ 0 → read_line (line_as n) ≡ (0, n)
read_line-line_as n f e = (read_line-accepts (line_as n) n).1 (line_as-is n f e)

pub line_as-short : (n : Net) → n.family ≡ 4 → refusal_of n ≡ 0 → length (line_as n) ≤ 18
line_as-short n f e = let l = (ipv4-is n f e).len in omega (arith, length-line_as n, length-digits_of-two n.len (omega arith))

-- What is read can be written.
octet-known : {s : List ℕ} → is_dec_octet s ≡ true → (decimal s ≤ 255) × (s ≡ digits_of (decimal s))
octet-known {s} h = let n = octet-number s h in ((is_number-is 255 s n).most, number-known 255 s (omega arith) n)

is_line-granted : (s : List ℕ) (n : Net) → IsLine s n → (n.family ≡ 4) × (refusal_of n ≡ 0)
is_line-granted s n l =
    let a = (octet-known l.a-rule).0 in
    let b = (octet-known l.b-rule).0 in
    let c = (octet-known l.c-rule).0 in
    let d = (octet-known l.d-rule).0 in
    let v = address (decimal l.a) (decimal l.b) (decimal l.c) (decimal l.d) in
    (ap (λ m. m.family) l.network, rw l.network (refusal_of-ipv4 v (decimal l.len) (omega arith) (is_number-is 32 l.len l.len-rule).most))

pub read_line-granted : (s : List ℕ) (n : Net) → read_line s ≡ (0, n) → (n.family ≡ 4) × (refusal_of n ≡ 0)
read_line-granted s n e = is_line-granted s n ((read_line-accepts s n).0 e)

-- so it is taken in, and what is refused is refused
pub entered_line-network : {t : (Result Net Refusal)} {n : Net} (s : List ℕ) (r : Result (Net × Bool) Refusal) → t ≡ Ok n → taken_as t ≡ read_line s → entered_as r ≡ entered n → entered_as r ≡ entered_line s
unfolding entered_line
entered_line-network {t} {n} s r e h k = taken_in-network (read_line s) r e h (read_line-granted s n (sym h ∙ ap taken_as e)).1 k

pub entered_line-refused : {t : (Result Net Refusal)} {x : Refusal} (s : List ℕ) → t ≡ Err x → taken_as t ≡ read_line s → (number x, no_entry) ≡ entered_line s
unfolding entered_line
entered_line-refused s e h = taken_in-refused (read_line s) e h

line_refusal-zero : (n : Net) (room : ℕ) → line_refusal n room ≡ 0 → (n.family ≡ 4) × (refusal_of n ≡ 0)
unfolding line_refusal refusal_of
line_refusal-zero n room e = go (eqb n.family 4) (in_range n) refl refl e
  where
    go : (f r : Bool) → eqb n.family 4 ≡ f → in_range n ≡ r → ◌≡◌ {A = ℕ} (cond f (cond r (cond (leb (length (line_of n)) room) 0 11) 7) 6) 0 → (n.family ≡ 4) × (refusal_of n ≡ 0)
    go true true h k e = (eqb-true n.family 4 h, rw (h, k))
    go true false h k e = absurd (omega arith)
    go false r h k e = absurd (omega arith)

-- No other line reads as the same numbers: the four bytes of its address are known.
octets-address : (a b c d : ℕ) → a ≤ 255 → b ≤ 255 → c ≤ 255 → d ≤ 255
    → let x = address a b c d in (x / 2 ^ 24 % 256 ≡ a) × (x / 2 ^ 16 % 256 ≡ b) × (x / 2 ^ 8 % 256 ≡ c) × (x / 2 ^ 0 % 256 ≡ d)
octets-address a b c d h g f e = (omega arith, omega arith, omega arith, omega arith)

is_line-line_as : (s : List ℕ) (n : Net) → IsLine s n → s ≡ line_as n
unfolding line_as
is_line-line_as s n l =
    let a = octet-known l.a-rule in
    let b = octet-known l.b-rule in
    let c = octet-known l.c-rule in
    let d = octet-known l.d-rule in
    let k = number-known 32 l.len (omega arith) l.len-rule in
    let o = octets-address (decimal l.a) (decimal l.b) (decimal l.c) (decimal l.d) a.0 b.0 c.0 d.0 in
    l.bytes ∙ rw (l.network, o.0, o.1, o.2, o.3, ← a.1, ← b.1, ← c.1, ← d.1, ← k)

pub line_as-only : (s : List ℕ) (n : Net) → read_line s ≡ (0, n) → s ≡ line_as n
line_as-only s n e = is_line-line_as s n ((read_line-accepts s n).0 e)

-- The line that is written is that of the cleared numbers.
module _ (n : Net) (f : n.family ≡ 4) (e : refusal_of n ≡ 0) where
  line_of-reads : read_line (line_of n) ≡ (0, cleared n)
  unfolding line_of
  line_of-reads = read_line-line_as (cleared n) (family-cleared n ∙ f) (refusal_of-cleared n e)

  -- it reads back to the cleared network, and reports no
  pub entered_line-line_of : entered_line (line_of n) ≡ (0, (cleared n, false))
  unfolding entered_line
  entered_line-line_of = rw (line_of-reads, cleared-cleared n e, has_bit_past-cleared n e)

-- the bytes that a call has written do so, and its report says whether a bit was cut
pub written-reads : (n : Net) (old new : List ℕ) (k : ℕ) (b : Bool) → Wrote n old new (Ok (k, b)) → (entered_line (take k new) ≡ (0, (cleared n, false))) × (b ≡ has_bit_past n)
written-reads n old new k b w =
    let a = over-granted (line_refusal n (length old)) (line_of n) (has_bit_past n) old new k b w in
    let g = line_refusal-zero n (length old) a.0 in
    (ap entered_line a.2 ∙ entered_line-line_of n g.0 g.1, a.3)

-- Networks of one family with the same bits are written alike: so every line of a network, read and written again, is one line.
pub line_of-one : (m n : Net) → m.family ≡ n.family → net_bits m ≡ net_bits n → line_of m ≡ line_of n
unfolding line_of
line_of-one m n f e = ap line_as (cleared-one m n f e)

-- what a line that is taken in reads as
pub record Took (s : List ℕ) (m : Net) (b : Bool) : Type 0 where
  pub read : Net
  pub reads : read_line s ≡ (0, read)
  pub family : read.family ≡ 4
  pub granted : refusal_of read ≡ 0
  pub network : m ≡ cleared read
  pub report : b ≡ has_bit_past read

pub took : (s : List ℕ) (m : Net) (b : Bool) → entered_line s ≡ (0, (m, b)) → Took s m b
unfolding entered_line
took s m b e =
    let n = (read_line s).1 in
    let a = answered-granted (read_line s).0 no_entry (cleared n, has_bit_past n) (m, b) (sym e) in
    let q : read_line s ≡ (0, n) = ap (λ k. (k, n)) a.0 in
    let g = read_line-granted s n q in
    record { read = n; reads = q; family = g.0; granted = g.1; network = ap (λ p. p.0) a.1; report = ap (λ p. p.1) a.1 }

pub line_of-again : (s : List ℕ) (m n : Net) (b : Bool) → n.family ≡ 4 → entered_line s ≡ (0, (m, b)) → net_bits m ≡ net_bits n → line_of m ≡ line_of n
line_of-again s m n b f e g =
    let t = took s m b e in
    let h : m.family ≡ 4 = ap (λ x. x.family) t.network ∙ family-cleared t.read ∙ t.family in
    line_of-one m n (h ∙ sym f) g

-- And of all lines of a network the written one alone reports no.
pub line_of-clear : (s : List ℕ) (n : Net) → n.family ≡ 4 → refusal_of n ≡ 0 → (entered_line s ≡ (0, (cleared n, false))) ↔ (s ≡ line_of n)
unfolding line_of
line_of-clear s n f e = (only, back)
  where
    only : entered_line s ≡ (0, (cleared n, false)) → s ≡ line_as (cleared n)
    only h =
        let t = took s (cleared n) false h in
        let l = (ipv4-is t.read t.family t.granted).lo in
        let c : cleared t.read ≡ t.read = cleared-same t.read t.granted (omega arith) (sym t.report) in
        line_as-only s t.read t.reads ∙ ap line_as (sym c ∙ sym t.network)

    back : s ≡ line_as (cleared n) → entered_line s ≡ (0, (cleared n, false))
    back h = ap entered_line h ∙ entered_line-line_of n f e
