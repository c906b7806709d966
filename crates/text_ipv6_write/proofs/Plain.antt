-- The digits that are written for a group follow the RFC's rules, and no other digits of the same value do. Assumes nothing.
use mathlib.Core.Bool.{Bool, true, false, ◌&&◌}
use mathlib.Core.List.{List, [], ◌∷◌, map}
use mathlib.Core.Logic.{⊎_elim}
use mathlib.Core.Path.{◌≡◌, refl, ap, sym}
use Prim.Native.Nat.{ℕ, zero, suc, ◌+◌, ◌-◌, ◌*◌, ◌/◌, ◌%◌, ◌≤◌, ◌<◌}
use native.Mathlib.Omega.{arith}
use lib.Dec.{eqb, leb, ltb}
use lib.ListN.{length, take, drop}
use borrow.Author.Tests.{leb-true, ltb-true, eqb-false, ne_eqb, not-true}
use Rattle.nets.proofs.Strings.{and_left, and_right, and_both, or_cases}
use Rattle.text_decimal.specs.Decimal.{plain}
use Rattle.text_decimal.specs.Spans.{all_of}
use Rattle.text_hex.specs.Hex.{within, hex_value, hex_number, hex_number_from, hex_byte_of, hex_digits_of}
use Rattle.text_hex.proofs.Digits.{within-is, within-le, within-past, hex_value-digit, hex_value-lower, hex_value-most}
use Rattle.text_hex.proofs.Written.{hex_byte_of-digit, hex_byte_of-letter, hex_byte_of-cases, hex_digits_of-cases, hex_number-hex_digits_of}
use Rattle.text_hex.proofs.Written.{hex_digits_of-one, hex_digits_of-two, hex_digits_of-three, hex_digits_of-four}
use Rattle.text_ipv6_write.specs.Ipv6.{digits}
use Rattle.text_ipv6_write.specs.Rfc5952.{is_lower, is_plain, all_plain, Writes}

-- What is written.
is_lower-hex_byte_of : (d : ℕ) → d < 16 → is_lower (hex_byte_of d) ≡ true
unfolding is_lower
is_lower-hex_byte_of d h =
    hex_byte_of-cases (λ c. is_lower c ≡ true) d (λ g. rw (within-le 48 57 (48 + d) (omega arith) (omega arith)))
    (λ g. rw (within-past 48 57 (97 + (d - 10)) (omega arith), within-le 97 102 (97 + (d - 10)) (omega arith) (omega arith)))

-- 0 is the byte of 0 alone
hex_byte_of-zero : (d : ℕ) → 1 ≤ d → eqb (hex_byte_of d) 48 ≡ false
hex_byte_of-zero d h = hex_byte_of-cases (λ c. eqb c 48 ≡ false) d (λ g. ne_eqb (48 + d) 48 (omega arith)) (λ g. ne_eqb (97 + (d - 10)) 48 (omega arith))

pub is_plain-hex_digits_of : (x : ℕ) → x < 65536 → is_plain (hex_digits_of x) ≡ true
unfolding is_plain all_of plain
is_plain-hex_digits_of x l =
    hex_digits_of-cases (λ s. is_plain s ≡ true) x (λ h. rw (is_lower-hex_byte_of x h))
    (λ h g. rw (is_lower-hex_byte_of (x / 16) (omega arith), is_lower-hex_byte_of (x % 16) (omega arith), hex_byte_of-zero (x / 16) (omega arith)))
    (λ h g.
    rw (
      is_lower-hex_byte_of (x / 256) (omega arith),
      is_lower-hex_byte_of (x / 16 % 16) (omega arith),
      is_lower-hex_byte_of (x % 16) (omega arith),
      hex_byte_of-zero (x / 256) (omega arith),
    ))
    (λ h.
    rw (
      is_lower-hex_byte_of (x / 4096) (omega arith),
      is_lower-hex_byte_of (x / 256 % 16) (omega arith),
      is_lower-hex_byte_of (x / 16 % 16) (omega arith),
      is_lower-hex_byte_of (x % 16) (omega arith),
      hex_byte_of-zero (x / 4096) (omega arith),
    ))

-- A digit of the lower case is known by its value.
pub record Lower (c : ℕ) : Type 0 where
  pub byte : c ≡ hex_byte_of (hex_value c)
  pub most : hex_value c < 16
  pub some : (c ≡ 48 → ⊥) → 1 ≤ hex_value c

lower-is : (c : ℕ) → is_lower c ≡ true → Lower c
unfolding is_lower
lower-is c e = ⊎_elim (λ h. digit (within-is 48 57 c h)) (λ h. letter (within-is 97 102 c h)) (or_cases (within 48 57 c) (within 97 102 c) e)
  where
    digit : (48 ≤ c) × (c ≤ 57) → Lower c
    digit h =
        let v = hex_value-digit c h.0 h.1 in
        record { byte = omega (arith, ap hex_byte_of v, hex_byte_of-digit (c - 48) (omega arith)); most = hex_value-most c; some = λ n. not-zero v n }
      where
        not-zero : hex_value c ≡ c - 48 → (c ≡ 48 → ⊥) → 1 ≤ hex_value c
        not-zero v n = omega arith

    letter : (97 ≤ c) × (c ≤ 102) → Lower c
    letter h =
        let v = hex_value-lower c h.0 h.1 in
        record { byte = omega (arith, ap hex_byte_of v, hex_byte_of-letter (c - 97 + 10) (omega arith)); most = hex_value-most c; some = λ n. omega arith }

-- Digits by their number: the values of their bytes, the first of them not 0 where there are others.
one_known : (a x : ℕ) → a < 16 → x ≡ a → hex_digits_of x ≡ hex_byte_of a ∷ []
one_known a x h e = rw (e, hex_digits_of-one a h)

two-known : (a b x : ℕ) → 1 ≤ a → a < 16 → b < 16 → x ≡ a * 16 + b → hex_digits_of x ≡ hex_byte_of a ∷ hex_byte_of b ∷ []
two-known a b x h g i e =
    let k : x / 16 ≡ a = omega arith in
    let l : x % 16 ≡ b = omega arith in
    rw (hex_digits_of-two x (omega arith) (omega arith), k, l)

three-known : (a b c x : ℕ) → 1 ≤ a → a < 16 → b < 16 → c < 16 → x ≡ (a * 16 + b) * 16 + c → hex_digits_of x ≡ hex_byte_of a ∷ hex_byte_of b ∷ hex_byte_of c ∷ []
three-known a b c x h g i j e =
    let k : x / 256 ≡ a = omega arith in
    let l : x / 16 % 16 ≡ b = omega arith in
    let m : x % 16 ≡ c = omega arith in
    rw (hex_digits_of-three x (omega arith) (omega arith), k, l, m)

four-known : (a b c d x : ℕ) → 1 ≤ a → a < 16 → b < 16 → c < 16 → d < 16 → x ≡ ((a * 16 + b) * 16 + c) * 16 + d
    → hex_digits_of x ≡ hex_byte_of a ∷ hex_byte_of b ∷ hex_byte_of c ∷ hex_byte_of d ∷ []
four-known a b c d x h g i j o e =
    let k : x / 4096 ≡ a = omega arith in
    let l : x / 256 % 16 ≡ b = omega arith in
    let m : x / 16 % 16 ≡ c = omega arith in
    let n : x % 16 ≡ d = omega arith in
    rw (hex_digits_of-four x (omega arith), k, l, m, n)

hex_number_from-least : (v : ℕ) (s : List ℕ) → v ≤ hex_number_from v s
unfolding hex_number_from
hex_number_from-least v [] = omega arith
hex_number_from-least v (c ∷ s) = omega (arith, hex_number_from-least (v * 16 + hex_value c) s)

-- The first of two or more digits.
first : (c d : ℕ) (s : List ℕ) → Lower c → plain (c ∷ d ∷ s) ≡ true → 1 ≤ hex_value c
unfolding plain
first c d s h p = h.some (eqb-false c 48 (not-true (eqb c 48) p))

all_head : (f : ℕ → Bool) (c : ℕ) (s : List ℕ) → all_of f (c ∷ s) ≡ true → f c ≡ true
unfolding all_of
all_head f c s e = and_left (f c) (all_of f s) e

all_tail : (f : ℕ → Bool) (c : ℕ) (s : List ℕ) → all_of f (c ∷ s) ≡ true → all_of f s ≡ true
unfolding all_of
all_tail f c s e = and_right (f c) (all_of f s) e

digits-known : (d : List ℕ) → all_of is_lower d ≡ true → 1 ≤ length d → plain d ≡ true → hex_number d < 65536 → d ≡ hex_digits_of (hex_number d)
unfolding hex_number_from
digits-known [] l h p m = absurd (omega arith)
digits-known (a ∷ []) l h p m =
    let x = lower-is a (all_head is_lower a [] l) in
    rw (one_known (hex_value a) (hex_number (a ∷ [])) x.most (omega arith)) (cc x.byte)
digits-known (a ∷ b ∷ []) l h p m =
    let x = lower-is a (all_head is_lower a (b ∷ []) l) in
    let y = lower-is b (all_head is_lower b [] (all_tail is_lower a (b ∷ []) l)) in
    rw (two-known (hex_value a) (hex_value b) (hex_number (a ∷ b ∷ [])) (first a b [] x p) x.most y.most (omega arith)) (cc (x.byte, y.byte))
digits-known (a ∷ b ∷ c ∷ []) l h p m =
    let k = all_tail is_lower a (b ∷ c ∷ []) l in
    let x = lower-is a (all_head is_lower a (b ∷ c ∷ []) l) in
    let y = lower-is b (all_head is_lower b (c ∷ []) k) in
    let z = lower-is c (all_head is_lower c [] (all_tail is_lower b (c ∷ []) k)) in
    rw (three-known (hex_value a) (hex_value b) (hex_value c) (hex_number (a ∷ b ∷ c ∷ [])) (first a b (c ∷ []) x p) x.most y.most z.most (omega arith))
    (cc (x.byte, y.byte, z.byte))
digits-known (a ∷ b ∷ c ∷ d ∷ []) l h p m =
    let k = all_tail is_lower a (b ∷ c ∷ d ∷ []) l in
    let j = all_tail is_lower b (c ∷ d ∷ []) k in
    let x = lower-is a (all_head is_lower a (b ∷ c ∷ d ∷ []) l) in
    let y = lower-is b (all_head is_lower b (c ∷ d ∷ []) k) in
    let z = lower-is c (all_head is_lower c (d ∷ []) j) in
    let w = lower-is d (all_head is_lower d [] (all_tail is_lower c (d ∷ []) j)) in
    let f = first a b (c ∷ d ∷ []) x p in
    let n = hex_number (a ∷ b ∷ c ∷ d ∷ []) in
    rw (four-known (hex_value a) (hex_value b) (hex_value c) (hex_value d) n f x.most y.most z.most w.most (omega arith))
    (cc (x.byte, y.byte, z.byte, w.byte))
digits-known (a ∷ b ∷ c ∷ d ∷ e ∷ s) l h p m =
    let x = first a b (c ∷ d ∷ e ∷ s) (lower-is a (all_head is_lower a (b ∷ c ∷ d ∷ e ∷ s) l)) p in
    absurd (omega (arith, hex_number_from-least (((((0 * 16 + hex_value a) * 16 + hex_value b) * 16 + hex_value c) * 16 + hex_value d) * 16 + hex_value e) s))

pub is_plain-known : (d : List ℕ) → is_plain d ≡ true → hex_number d < 65536 → d ≡ hex_digits_of (hex_number d)
unfolding is_plain
is_plain-known d e m =
    let h = and_right (all_of is_lower d) (leb 1 (length d) && plain d) e in
    digits-known d (and_left (all_of is_lower d) (leb 1 (length d) && plain d) e) (leb-true 1 (length d) (and_left (leb 1 (length d)) (plain d) h))
    (and_right (leb 1 (length d)) (plain d) h) m

-- Groups of 16 bits, all of them.
abbrev pub is16 : ℕ → Bool
is16 g = ltb g 65536

pub all_take : (f : ℕ → Bool) (k : ℕ) (gs : List ℕ) → all_of f gs ≡ true → all_of f (take k gs) ≡ true
unfolding all_of
all_take f zero gs h = refl
all_take f (suc k) [] h = refl
all_take f (suc k) (g ∷ gs) h = and_both (f g) (all_of f (take k gs)) (and_left (f g) (all_of f gs) h) (all_take f k gs (and_right (f g) (all_of f gs) h))

pub all_drop : (f : ℕ → Bool) (k : ℕ) (gs : List ℕ) → all_of f gs ≡ true → all_of f (drop k gs) ≡ true
unfolding all_of
all_drop f zero gs h = h
all_drop f (suc k) [] h = refl
all_drop f (suc k) (g ∷ gs) h = all_drop f k gs (and_right (f g) (all_of f gs) h)

plain-digits : (gs : List ℕ) → all_of is16 gs ≡ true → all_plain (digits gs) ≡ true
unfolding all_plain
plain-digits [] h = refl
plain-digits (g ∷ gs) h =
    and_both (is_plain (hex_digits_of g)) (all_plain (digits gs))
    (is_plain-hex_digits_of g (ltb-true g 65536 (all_head is16 g gs h))) (plain-digits gs (all_tail is16 g gs h))

-- each group's digits read back to the group
pub read-digits : (gs : List ℕ) → all_of is16 gs ≡ true → map hex_number (digits gs) ≡ gs
read-digits [] h = refl
read-digits (g ∷ gs) h = cc (hex_number-hex_digits_of g (ltb-true g 65536 (all_head is16 g gs h)), read-digits gs (all_tail is16 g gs h))

pub writes-digits : (gs : List ℕ) → all_of is16 gs ≡ true → Writes (digits gs) gs
writes-digits gs h = record { plain = plain-digits gs h; groups = read-digits gs h }

digits-only : (ds : List (List ℕ)) → all_plain ds ≡ true → all_of is16 (map hex_number ds) ≡ true → ds ≡ digits (map hex_number ds)
unfolding all_plain
digits-only [] p h = refl
digits-only (d ∷ ds) p h =
    cc (
      is_plain-known d (and_left (is_plain d) (all_plain ds) p) (ltb-true (hex_number d) 65536 (all_head is16 (hex_number d) (map hex_number ds) h)),
      digits-only ds (and_right (is_plain d) (all_plain ds) p) (all_tail is16 (hex_number d) (map hex_number ds) h),
    )

pub writes-only : (ds : List (List ℕ)) (gs : List ℕ) → all_of is16 gs ≡ true → Writes ds gs → ds ≡ digits gs
writes-only ds gs h w = rw (sym w.groups) (digits-only ds w.plain (rw w.groups h))
