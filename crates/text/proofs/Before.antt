-- What became of the lines of document 01's rule: those with a leading zero are refused, every other line reads as it did, and no line came in.
-- Assumes nothing.
use mathlib.Core.Bool.{Bool, true, false, true≢false, not, ◌&&◌, ◌||◌, or-false}
use mathlib.Core.List.{List, [], ◌∷◌, ◌++◌, append-nil}
use mathlib.Core.Logic.{◌↔◌}
use mathlib.Core.Path.{◌≡◌, refl, sym, ◌∙◌}
use Prim.Native.Nat.{ℕ, ◌≤◌}
use native.Mathlib.Omega.{arith}
use lib.Dec.{eqb, leb}
use lib.ListN.{length}
use borrow.Author.Tests.{leb-true, le-leb, not-false}
use Rattle.nets.proofs.Strings.{and_left, and_right}
use Rattle.nets.specs.declared.Net.{Net}
use Rattle.text_decimal.specs.Spans.{all_of, starts_of}
use Rattle.text_decimal.specs.Decimal.{is_digit, all_digits, decimal, plain, is_number}
use Rattle.text.specs.DecOctet.{is_dec_octet}
use Rattle.text.specs.Ipv4.{dot, slash, joined, Line, IsLine, bad_text, read_line}
use Rattle.text_decimal.specs.Places.{starts_digit, starts_zero}
use Rattle.text.specs.Before.{was_number, WasLine, zero_led, zero_led_from}
use Rattle.text_decimal.proofs.Numbers.{is_number-is, is-is_number}
use Rattle.text.proofs.Digits.{length-number, length-number-two}
use Rattle.text.proofs.DecOctet.{octet-number, number-octet}
use Rattle.text.proofs.Grammar.{bad_text-some, read_line-accepts, read_line-refuses}

-- A number is one that was and has no leading zero.
record Was (k m : ℕ) (s : List ℕ) : Type 0 where
  digits : all_digits s ≡ true
  some : 1 ≤ length s
  few : length s ≤ k
  most : decimal s ≤ m

was-is : (k m : ℕ) (s : List ℕ) → was_number k m s ≡ true → Was k m s
unfolding was_number
was-is k m s e =
    let h = and_right (all_digits s) (leb 1 (length s) && (leb (length s) k && leb (decimal s) m)) e in
    let g = and_right (leb 1 (length s)) (leb (length s) k && leb (decimal s) m) h in
    record {
      digits = and_left (all_digits s) (leb 1 (length s) && (leb (length s) k && leb (decimal s) m)) e;
      some = leb-true 1 (length s) (and_left (leb 1 (length s)) (leb (length s) k && leb (decimal s) m) h);
      few = leb-true (length s) k (and_left (leb (length s) k) (leb (decimal s) m) g);
      most = leb-true (decimal s) m (and_right (leb (length s) k) (leb (decimal s) m) g);
    }

number-was : (k m : ℕ) (s : List ℕ) → is_number m s ≡ true → length s ≤ k → was_number k m s ≡ true
unfolding was_number
number-was k m s h l = let n = is_number-is m s h in rw (n.digits, le-leb 1 (length s) n.some, le-leb (length s) k l, le-leb (decimal s) m n.most)

was-number : (k m : ℕ) (s : List ℕ) → was_number k m s ≡ true → plain s ≡ true → is_number m s ≡ true
was-number k m s h p = let w = was-is k m s h in is-is_number m s (record { digits = w.digits; some = w.some; plain = p; most = w.most })

-- Leading zeros in a line: they stand in its numbers.
zero_led_from-digits : (s t : List ℕ) → all_digits s ≡ true → zero_led_from true (s ++ t) ≡ zero_led_from true t
unfolding zero_led_from all_of
zero_led_from-digits [] t a = refl
zero_led_from-digits (c ∷ s) t a = rw (and_left (is_digit c) (all_digits s) a) (zero_led_from-digits s t (and_right (is_digit c) (all_digits s) a))

zero_led-append : (s t : List ℕ) → all_digits s ≡ true → 1 ≤ length s → starts_digit t ≡ false → zero_led (s ++ t) ≡ (not (plain s) || zero_led_from true t)
unfolding zero_led_from starts_zero starts_of plain all_of
zero_led-append [] t a l d = absurd (omega arith)
zero_led-append (c ∷ []) t a l d = rw (and_left (is_digit c) true a, d) (go (eqb c 48))
  where
    go : (z : Bool) → (z && false || zero_led_from true t) ≡ zero_led_from true t
    go true = refl
    go false = refl
zero_led-append (c ∷ e ∷ s) t a l d =
    let b = and_right (is_digit c) (is_digit e && all_digits s) a in
    let f = zero_led_from-digits s t (and_right (is_digit e) (all_digits s) b) in
    rw (and_left (is_digit c) (is_digit e && all_digits s) a, and_left (is_digit e) (all_digits s) b, f) (go (eqb c 48))
  where
    go : (z : Bool) → (z && true || zero_led_from true t) ≡ (not (not z) || zero_led_from true t)
    go true = refl
    go false = refl

zero_led-ended : (s : List ℕ) (e : ℕ) (t : List ℕ) → all_digits s ≡ true → 1 ≤ length s → is_digit e ≡ false
    → zero_led (s ++ (e ∷ t)) ≡ (not (plain s) || zero_led t)
unfolding zero_led_from starts_of
zero_led-ended s e t a l d = zero_led-append s (e ∷ t) a l d ∙ rw d

zero_led-last : (s : List ℕ) → all_digits s ≡ true → 1 ≤ length s → zero_led s ≡ not (plain s)
unfolding zero_led_from starts_of
zero_led-last s a l = rw (append-nil s, or-false (not (plain s))) at (zero_led-append s [] a l refl)

zero_led-line : (s : List ℕ) (n : Net) (l : WasLine s n)
    → zero_led s ≡ (not (plain l.a) || (not (plain l.b) || (not (plain l.c) || (not (plain l.d) || not (plain l.len)))))
unfolding joined is_digit
zero_led-line s n l =
    let a = was-is 3 255 l.a l.a-rule in
    let b = was-is 3 255 l.b l.b-rule in
    let c = was-is 3 255 l.c l.c-rule in
    let d = was-is 3 255 l.d l.d-rule in
    let k = was-is 2 32 l.len l.len-rule in
    let t = l.d ++ (slash ∷ l.len) in
    let u = l.c ++ (dot ∷ t) in
    rw (
      l.bytes,
      zero_led-ended l.a dot (l.b ++ (dot ∷ u)) a.digits a.some refl,
      zero_led-ended l.b dot u b.digits b.some refl,
      zero_led-ended l.c dot t c.digits c.some refl,
      zero_led-ended l.d slash l.len d.digits d.some refl,
      zero_led-last l.len k.digits k.some,
    )

-- A line by other rules, which its numbers meet too.
line-by : {o k : List ℕ → Bool} {s : List ℕ} {n : Net} (p q : List ℕ → Bool) (l : Line o k s n)
    → p l.a ≡ true → p l.b ≡ true → p l.c ≡ true → p l.d ≡ true → q l.len ≡ true → Line p q s n
line-by p q l a b c d e =
    record {
      a = l.a;
      b = l.b;
      c = l.c;
      d = l.d;
      len = l.len;
      a-rule = a;
      b-rule = b;
      c-rule = c;
      d-rule = d;
      len-rule = e;
      bytes = l.bytes;
      network = l.network;
    }

-- A line of today was a line, of the same network, and has no leading zero.
octet-was : (s : List ℕ) → is_dec_octet s ≡ true → was_number 3 255 s ≡ true
octet-was s h = let g = octet-number s h in number-was 3 255 s g (length-number 255 s (omega arith) g)

is_line-was : (s : List ℕ) (n : Net) → IsLine s n → WasLine s n
is_line-was s n l =
    line-by (was_number 3 255) (was_number 2 32) l (octet-was l.a l.a-rule) (octet-was l.b l.b-rule) (octet-was l.c l.c-rule)
    (octet-was l.d l.d-rule) (number-was 2 32 l.len l.len-rule (length-number-two 32 l.len (omega arith) l.len-rule))

octet-plain : (s : List ℕ) → is_dec_octet s ≡ true → plain s ≡ true
octet-plain s h = (is_number-is 255 s (octet-number s h)).plain

is_line-plain : (s : List ℕ) (n : Net) → IsLine s n → zero_led s ≡ false
unfolding is_line-was line-by
is_line-plain s n l =
    zero_led-line s n (is_line-was s n l) ∙
    rw (
      octet-plain l.a l.a-rule,
      octet-plain l.b l.b-rule,
      octet-plain l.c l.c-rule,
      octet-plain l.d l.d-rule,
      (is_number-is 32 l.len l.len-rule).plain,
    )

-- And a line that was, without a leading zero, is one today.
or-none : (a b : Bool) → (not a || b) ≡ false → (a ≡ true) × (b ≡ false)
or-none true b e = (refl, e)
or-none false b e = absurd (true≢false e)

was-octet : (s : List ℕ) → was_number 3 255 s ≡ true → plain s ≡ true → is_dec_octet s ≡ true
was-octet s h p = number-octet s (was-number 3 255 s h p)

was-is_line : (s : List ℕ) (n : Net) → WasLine s n → zero_led s ≡ false → IsLine s n
was-is_line s n l z =
    let e = sym (zero_led-line s n l) ∙ z in
    let a = or-none (plain l.a) (not (plain l.b) || (not (plain l.c) || (not (plain l.d) || not (plain l.len)))) e in
    let b = or-none (plain l.b) (not (plain l.c) || (not (plain l.d) || not (plain l.len))) a.1 in
    let c = or-none (plain l.c) (not (plain l.d) || not (plain l.len)) b.1 in
    let d = or-none (plain l.d) (not (plain l.len)) c.1 in
    line-by is_dec_octet (is_number 32) l (was-octet l.a l.a-rule a.0) (was-octet l.b l.b-rule b.0) (was-octet l.c l.c-rule c.0)
    (was-octet l.d l.d-rule d.0) (was-number 2 32 l.len l.len-rule (not-false (plain l.len) d.1))

-- A line is read exactly if it was read, as the same network, and no number in it of two or more digits begins with 0.
pub read_line-was : (s : List ℕ) (n : Net) → (read_line s ≡ (0, n)) ↔ (WasLine s n × (zero_led s ≡ false))
read_line-was s n =
    let g = read_line-accepts s n in
    ((λ e. (is_line-was s n (g.0 e), is_line-plain s n (g.0 e))), (λ p. g.1 (was-is_line s n p.0 p.1)))

-- So a line that was read and is refused has such a number, every line that has one is refused, and every other line reads as before.
pub zero_led-refused : (s : List ℕ) (n : Net) → WasLine s n → read_line s ≡ bad_text → zero_led s ≡ true
zero_led-refused s n l e = go (zero_led s) refl
  where
    go : (z : Bool) → zero_led s ≡ z → z ≡ true
    go true h = refl
    go false h = absurd (bad_text-some n (sym e ∙ (read_line-was s n).1 (l, h)))

pub read_line-zero_led : (s : List ℕ) → zero_led s ≡ true → read_line s ≡ bad_text
read_line-zero_led s z = read_line-refuses s (λ n l. true≢false (sym z ∙ is_line-plain s n l))

pub read_line-same : (s : List ℕ) (n : Net) → zero_led s ≡ false → (read_line s ≡ (0, n)) ↔ WasLine s n
read_line-same s n z = ((λ e. ((read_line-was s n).0 e).0), (λ l. (read_line-was s n).1 (l, z)))
