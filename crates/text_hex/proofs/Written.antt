-- What is written for a number below 65536, case by case, and that it reads as the number. Assumes nothing.
use mathlib.Core.Bool.{Bool, true, false}
use mathlib.Core.List.{List, [], ◌∷◌, ◌++◌}
use mathlib.Core.Path.{◌≡◌, refl}
use Prim.Native.Nat.{ℕ, ◌+◌, ◌-◌, ◌/◌, ◌%◌, ◌≤◌, ◌<◌}
use native.Mathlib.Omega.{arith}
use lib.Dec.{ltb}
use lib.ListN.{length}
use borrow.Author.Tests.{ltb-true, ltb-false, lt-ltb, le-ltb}
use Rattle.text_decimal.specs.Spans.{all_of}
use Rattle.text_hex.specs.Hex.{is_hex_digit, hex_value, all_hex_digits, hex_number, hex_number_from, hex_byte_of, hex_digits_of}
use Rattle.text_hex.proofs.Digits.{within-le, within-past, hex_value-digit, hex_value-lower}

-- One digit.
pub hex_byte_of-digit : (d : ℕ) → d < 10 → hex_byte_of d ≡ 48 + d
unfolding hex_byte_of
hex_byte_of-digit d h = rw (lt-ltb d 10 h)

pub hex_byte_of-letter : (d : ℕ) → 10 ≤ d → hex_byte_of d ≡ 97 + (d - 10)
unfolding hex_byte_of
hex_byte_of-letter d h = rw (le-ltb d 10 h)

pub hex_byte_of-cases : (P : ℕ → Type 0) (d : ℕ) → (d < 10 → P (48 + d)) → (10 ≤ d → P (97 + (d - 10))) → P (hex_byte_of d)
hex_byte_of-cases P d f g = go (ltb d 10) refl
  where
    go : (b : Bool) → ltb d 10 ≡ b → P (hex_byte_of d)
    go true e = rw (hex_byte_of-digit d (ltb-true d 10 e)) (f (ltb-true d 10 e))
    go false e = rw (hex_byte_of-letter d (ltb-false d 10 e)) (g (ltb-false d 10 e))

pub hex_value-hex_byte_of : (d : ℕ) → d < 16 → hex_value (hex_byte_of d) ≡ d
hex_value-hex_byte_of d h =
    hex_byte_of-cases (λ c. hex_value c ≡ d) d (λ g. rw (hex_value-digit (48 + d) (omega arith) (omega arith)) (omega arith))
    (λ g. rw (hex_value-lower (97 + (d - 10)) (omega arith) (omega arith)) (omega arith))

pub is_hex_digit-hex_byte_of : (d : ℕ) → d < 16 → is_hex_digit (hex_byte_of d) ≡ true
unfolding is_hex_digit
is_hex_digit-hex_byte_of d h =
    hex_byte_of-cases (λ c. is_hex_digit c ≡ true) d (λ g. rw (within-le 48 57 (48 + d) (omega arith) (omega arith)))
    (λ g. rw (within-past 48 57 (97 + (d - 10)) (omega arith), within-le 97 102 (97 + (d - 10)) (omega arith) (omega arith)))

-- The digits of a number.
pub hex_digits_of-one : (x : ℕ) → x < 16 → hex_digits_of x ≡ hex_byte_of x ∷ []
unfolding hex_digits_of
hex_digits_of-one x h = rw (lt-ltb x 16 h)

pub hex_digits_of-two : (x : ℕ) → 16 ≤ x → x < 256 → hex_digits_of x ≡ hex_byte_of (x / 16) ∷ hex_byte_of (x % 16) ∷ []
unfolding hex_digits_of
hex_digits_of-two x h g = rw (le-ltb x 16 h, lt-ltb x 256 g)

pub hex_digits_of-three : (x : ℕ) → 256 ≤ x → x < 4096 → hex_digits_of x ≡ hex_byte_of (x / 256) ∷ hex_byte_of (x / 16 % 16) ∷ hex_byte_of (x % 16) ∷ []
unfolding hex_digits_of
hex_digits_of-three x h g = rw (le-ltb x 16 (omega arith), le-ltb x 256 h, lt-ltb x 4096 g)

pub hex_digits_of-four : (x : ℕ) → 4096 ≤ x
    → hex_digits_of x ≡ hex_byte_of (x / 4096) ∷ hex_byte_of (x / 256 % 16) ∷ hex_byte_of (x / 16 % 16) ∷ hex_byte_of (x % 16) ∷ []
unfolding hex_digits_of
hex_digits_of-four x h = rw (le-ltb x 16 (omega arith), le-ltb x 256 (omega arith), le-ltb x 4096 h)

pub hex_digits_of-cases : (P : List ℕ → Type 0) (x : ℕ)
    → (x < 16 → P (hex_byte_of x ∷ []))
    → (16 ≤ x → x < 256 → P (hex_byte_of (x / 16) ∷ hex_byte_of (x % 16) ∷ []))
    → (256 ≤ x → x < 4096 → P (hex_byte_of (x / 256) ∷ hex_byte_of (x / 16 % 16) ∷ hex_byte_of (x % 16) ∷ []))
    → (4096 ≤ x → P (hex_byte_of (x / 4096) ∷ hex_byte_of (x / 256 % 16) ∷ hex_byte_of (x / 16 % 16) ∷ hex_byte_of (x % 16) ∷ []))
    → P (hex_digits_of x)
hex_digits_of-cases P x f g h k = go (ltb x 16) (ltb x 256) (ltb x 4096) refl refl refl
  where
    go : (a b c : Bool) → ltb x 16 ≡ a → ltb x 256 ≡ b → ltb x 4096 ≡ c → P (hex_digits_of x)
    go true b c d e i = let l = ltb-true x 16 d in rw (hex_digits_of-one x l) (f l)
    go false true c d e i =
        let m = ltb-false x 16 d in
        let l = ltb-true x 256 e in
        rw (hex_digits_of-two x m l) (g m l)
    go false false true d e i =
        let m = ltb-false x 256 e in
        let l = ltb-true x 4096 i in
        rw (hex_digits_of-three x m l) (h m l)
    go false false false d e i = let m = ltb-false x 4096 i in rw (hex_digits_of-four x m) (k m)

-- the last digit stands behind the others
pub hex_digits_of-last : (x : ℕ) → 16 ≤ x → x < 65536 → hex_digits_of x ≡ hex_digits_of (x / 16) ++ (hex_byte_of (x % 16) ∷ [])
hex_digits_of-last x h l =
    hex_digits_of-cases (λ s. s ≡ hex_digits_of (x / 16) ++ (hex_byte_of (x % 16) ∷ [])) x (λ g. absurd (omega arith))
    (λ g k. rw (hex_digits_of-one (x / 16) (omega arith)))
    (λ g k. let e : x / 16 / 16 ≡ x / 256 = omega arith in rw (hex_digits_of-two (x / 16) (omega arith) (omega arith), e))
    (λ g.
    let e : x / 16 / 16 ≡ x / 256 = omega arith in
    let f : x / 16 / 256 ≡ x / 4096 = omega arith in
    rw (hex_digits_of-three (x / 16) (omega arith) (omega arith), f, e))

-- one to four of them
pub length-hex_digits_of : (x : ℕ) → (1 ≤ length (hex_digits_of x)) × (length (hex_digits_of x) ≤ 4)
length-hex_digits_of x =
    hex_digits_of-cases (λ s. (1 ≤ length s) × (length s ≤ 4)) x (λ h. (omega arith, omega arith)) (λ h g. (omega arith, omega arith))
    (λ h g. (omega arith, omega arith)) (λ h. (omega arith, omega arith))

-- each of them a digit
pub all_hex_digits-hex_digits_of : (x : ℕ) → x < 65536 → all_hex_digits (hex_digits_of x) ≡ true
unfolding all_of
all_hex_digits-hex_digits_of x l =
    hex_digits_of-cases (λ s. all_hex_digits s ≡ true) x (λ h. rw (is_hex_digit-hex_byte_of x h))
    (λ h g. rw (is_hex_digit-hex_byte_of (x / 16) (omega arith), is_hex_digit-hex_byte_of (x % 16) (omega arith)))
    (λ h g.
    rw (is_hex_digit-hex_byte_of (x / 256) (omega arith), is_hex_digit-hex_byte_of (x / 16 % 16) (omega arith), is_hex_digit-hex_byte_of (x % 16) (omega arith)))
    (λ h.
    rw (
      is_hex_digit-hex_byte_of (x / 4096) (omega arith),
      is_hex_digit-hex_byte_of (x / 256 % 16) (omega arith),
      is_hex_digit-hex_byte_of (x / 16 % 16) (omega arith),
      is_hex_digit-hex_byte_of (x % 16) (omega arith),
    ))

-- Reading what is written gives the number back.
pub hex_number-hex_digits_of : (x : ℕ) → x < 65536 → hex_number (hex_digits_of x) ≡ x
unfolding hex_number_from
hex_number-hex_digits_of x l =
    hex_digits_of-cases (λ s. hex_number s ≡ x) x (λ h. rw (hex_value-hex_byte_of x h) (omega arith))
    (λ h g. rw (hex_value-hex_byte_of (x / 16) (omega arith), hex_value-hex_byte_of (x % 16) (omega arith)) (omega arith))
    (λ h g.
    rw (hex_value-hex_byte_of (x / 256) (omega arith), hex_value-hex_byte_of (x / 16 % 16) (omega arith), hex_value-hex_byte_of (x % 16) (omega arith))
    (omega arith))
    (λ h.
    rw (
      hex_value-hex_byte_of (x / 4096) (omega arith),
      hex_value-hex_byte_of (x / 256 % 16) (omega arith),
      hex_value-hex_byte_of (x / 16 % 16) (omega arith),
      hex_value-hex_byte_of (x % 16) (omega arith),
    )
    (omega arith))
