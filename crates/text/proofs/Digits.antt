-- A number without a leading zero is the digits that are written for it. Assumes nothing.
use mathlib.Core.Bool.{true, ◌&&◌}
use mathlib.Core.List.{List, [], ◌∷◌}
use mathlib.Core.Path.{◌≡◌}
use Prim.Native.Nat.{ℕ, ◌+◌, ◌-◌, ◌*◌, ◌/◌, ◌%◌, ◌≤◌, ◌<◌}
use native.Mathlib.Omega.{arith}
use lib.Dec.{eqb}
use lib.ListN.{length}
use borrow.Author.Tests.{eqb-false, not-true}
use Rattle.nets.proofs.Strings.{and_left, and_right}
use Rattle.text_decimal.specs.Spans.{all_of}
use Rattle.text_decimal.specs.Decimal.{is_digit, all_digits, decimal, decimal_from, plain, is_number, byte_of, digits_of}
use Rattle.text_decimal.proofs.Numbers.{is_digit-is, decimal_from-least, is_number-is}
use Rattle.text_decimal.proofs.Writing.{digits_of-one, digits_of-two, digits_of-three, length-digits_of, length-digits_of-two}

-- Digits by their number.
one-digit : (c x : ℕ) → (48 ≤ c) × (c ≤ 57) → x ≡ c - 48 → c ∷ [] ≡ digits_of x
one-digit c x h e = let k : c ≡ byte_of x = omega arith in rw (digits_of-one x (omega arith), ← k)

two_digits : (c d x : ℕ) → (49 ≤ c) × (c ≤ 57) → (48 ≤ d) × (d ≤ 57) → x ≡ (c - 48) * 10 + (d - 48) → c ∷ d ∷ [] ≡ digits_of x
two_digits c d x h g e =
    let k : c ≡ byte_of (x / 10) = omega arith in
    let l : d ≡ byte_of (x % 10) = omega arith in
    rw (digits_of-two x (omega arith) (omega arith)) (cc)

three-digits : (c d f x : ℕ) → (49 ≤ c) × (c ≤ 57) → (48 ≤ d) × (d ≤ 57) → (48 ≤ f) × (f ≤ 57) → x ≡ ((c - 48) * 10 + (d - 48)) * 10 + (f - 48)
    → c ∷ d ∷ f ∷ [] ≡ digits_of x
three-digits c d f x h g i e =
    let k : c ≡ byte_of (x / 100) = omega arith in
    let l : d ≡ byte_of (x / 10 % 10) = omega arith in
    let m : f ≡ byte_of (x % 10) = omega arith in
    rw (digits_of-three x (omega arith)) (cc)

-- The first of two or more digits.
first : (c d : ℕ) (s : List ℕ) → is_digit c ≡ true → plain (c ∷ d ∷ s) ≡ true → (49 ≤ c) × (c ≤ 57)
unfolding plain
first c d s a p = let h = is_digit-is c a in let z = eqb-false c 48 (not-true (eqb c 48) p) in (omega arith, omega arith)

plain_known : (s : List ℕ) → all_digits s ≡ true → 1 ≤ length s → plain s ≡ true → decimal s < 1000 → s ≡ digits_of (decimal s)
unfolding all_of decimal_from
plain_known [] a h p l = absurd (omega arith)
plain_known (c ∷ []) a h p l = one-digit c (decimal (c ∷ [])) (is_digit-is c (and_left (is_digit c) true a)) (omega arith)
plain_known (c ∷ d ∷ []) a h p l =
    let b = and_right (is_digit c) (is_digit d && true) a in
    two_digits c d (decimal (c ∷ d ∷ [])) (first c d [] (and_left (is_digit c) (is_digit d && true) a) p) (is_digit-is d (and_left (is_digit d) true b))
    (omega arith)
plain_known (c ∷ d ∷ f ∷ []) a h p l =
    let b = and_right (is_digit c) (is_digit d && (is_digit f && true)) a in
    let e = and_right (is_digit d) (is_digit f && true) b in
    three-digits c d f (decimal (c ∷ d ∷ f ∷ [])) (first c d (f ∷ []) (and_left (is_digit c) (is_digit d && (is_digit f && true)) a) p)
    (is_digit-is d (and_left (is_digit d) (is_digit f && true) b)) (is_digit-is f (and_left (is_digit f) true e)) (omega arith)
plain_known (c ∷ d ∷ f ∷ e ∷ s) a h p l =
    let i = first c d (f ∷ e ∷ s) (and_left (is_digit c) (is_digit d && (is_digit f && (is_digit e && all_digits s))) a) p in
    absurd (omega (arith, decimal_from-least ((((0 * 10 + (c - 48)) * 10 + (d - 48)) * 10 + (f - 48)) * 10 + (e - 48)) s))

pub number-known : (m : ℕ) (s : List ℕ) → m < 1000 → is_number m s ≡ true → s ≡ digits_of (decimal s)
number-known m s l h = let n = is_number-is m s h in plain_known s n.digits n.some n.plain (omega (arith, n.most))

-- so it has few
pub length-number : (m : ℕ) (s : List ℕ) → m < 1000 → is_number m s ≡ true → length s ≤ 3
length-number m s l h = rw (number-known m s l h) (length-digits_of (decimal s))

pub length-number-two : (m : ℕ) (s : List ℕ) → m < 100 → is_number m s ≡ true → length s ≤ 2
length-number-two m s l h = rw (number-known m s (omega arith) h) (length-digits_of-two (decimal s) (omega (arith, (is_number-is m s h).most)))
