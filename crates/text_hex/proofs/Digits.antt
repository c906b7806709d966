-- A digit is one of three ranges of bytes, and its value is below 16; a number of k digits is below 16 to the k. Assumes nothing.
use mathlib.Core.Bool.{Bool, true, false, ◌&&◌, ◌||◌}
use mathlib.Core.List.{List, [], ◌∷◌}
use mathlib.Core.Logic.{◌⊎◌, inl, inr, ⊎_elim}
use mathlib.Core.Path.{◌≡◌, refl, sym}
use Prim.Native.Nat.{ℕ, ◌+◌, ◌-◌, ◌≤◌, ◌<◌}
use native.Mathlib.Omega.{arith}
use lib.Dec.{leb}
use lib.ListN.{length}
use borrow.Author.Tests.{leb-true, le-leb, lt-leb}
use Rattle.std.specs.Char.{is_ascii_hexdigit}
use Rattle.nets.proofs.Strings.{and_left, and_right, or_cases}
use Rattle.text_hex.specs.Hex.{within, is_hex_digit, hex_value, hex_number, hex_number_from}

pub within-is : (a b c : ℕ) → within a b c ≡ true → (a ≤ c) × (c ≤ b)
within-is a b c e = (leb-true a c (and_left (leb a c) (leb c b) e), leb-true c b (and_right (leb a c) (leb c b) e))

pub within-le : (a b c : ℕ) → a ≤ c → c ≤ b → within a b c ≡ true
within-le a b c h g = rw (le-leb a c h, le-leb c b g)

pub within-past : (a b c : ℕ) → b < c → within a b c ≡ false
within-past a b c h = go (leb a c)
  where
    go : (t : Bool) → (t && leb c b) ≡ false
    go true = lt-leb c b h
    go false = refl

pub within-before : (a b c : ℕ) → c < a → within a b c ≡ false
within-before a b c h = rw (lt-leb a c h)

pub within-not : (a b c : ℕ) → (a ≤ c → c ≤ b → ⊥) → within a b c ≡ false
within-not a b c h = go (within a b c) refl
  where
    go : (t : Bool) → within a b c ≡ t → t ≡ false
    go true e = let k = within-is a b c e in absurd (h k.0 k.1)
    go false e = refl

-- the library's word for a digit
pub hexdigit-is : (c : ℕ) → is_ascii_hexdigit c ≡ is_hex_digit c
unfolding is_hex_digit
hexdigit-is c = go (within 48 57 c) (within 97 102 c) (within 65 70 c)
  where
    go : (x y z : Bool) → ((x || z) || y) ≡ (x || (y || z))
    go true y z = refl
    go false true true = refl
    go false true false = refl
    go false false true = refl
    go false false false = refl

-- the three ranges
pub is_hex_digit-is : (c : ℕ) → is_hex_digit c ≡ true → ((48 ≤ c) × (c ≤ 57)) ⊎ (((97 ≤ c) × (c ≤ 102)) ⊎ ((65 ≤ c) × (c ≤ 70)))
unfolding is_hex_digit
is_hex_digit-is c e =
    ⊎_elim (λ h. inl (within-is 48 57 c h))
    (λ h. inr (⊎_elim (λ k. inl (within-is 97 102 c k)) (λ k. inr (within-is 65 70 c k)) (or_cases (within 97 102 c) (within 65 70 c) h)))
    (or_cases (within 48 57 c) (within 97 102 c || within 65 70 c) e)

-- the value of a digit of each range, and its bound
pub hex_value-digit : (c : ℕ) → 48 ≤ c → c ≤ 57 → hex_value c ≡ c - 48
unfolding hex_value
hex_value-digit c h g = rw (within-le 48 57 c h g)

pub hex_value-lower : (c : ℕ) → 97 ≤ c → c ≤ 102 → hex_value c ≡ c - 97 + 10
unfolding hex_value
hex_value-lower c h g = rw (within-past 48 57 c (omega arith), within-le 97 102 c h g)

pub hex_value-upper : (c : ℕ) → 65 ≤ c → c ≤ 70 → hex_value c ≡ c - 65 + 10
unfolding hex_value
hex_value-upper c h g = rw (within-past 48 57 c (omega arith), within-before 97 102 c (omega arith), within-le 65 70 c h g)

pub hex_value-other : (c : ℕ) → within 48 57 c ≡ false → within 97 102 c ≡ false → within 65 70 c ≡ false → hex_value c ≡ 0
unfolding hex_value
hex_value-other c e f g = rw (e, f, g)

pub hex_value-none : (c : ℕ) → (48 ≤ c → c ≤ 57 → ⊥) → (97 ≤ c → c ≤ 102 → ⊥) → (65 ≤ c → c ≤ 70 → ⊥) → 0 ≡ hex_value c
hex_value-none c f g h = sym (hex_value-other c (within-not 48 57 c f) (within-not 97 102 c g) (within-not 65 70 c h))

pub hex_value-most : (c : ℕ) → hex_value c < 16
unfolding hex_value
hex_value-most c = go (within 48 57 c) (within 97 102 c) (within 65 70 c) refl refl refl
  where
    go : (x y z : Bool) → within 48 57 c ≡ x → within 97 102 c ≡ y → within 65 70 c ≡ z → hex_value c < 16
    go true y z e f g = rw e (omega (arith, within-is 48 57 c e))
    go false true z e f g = rw (e, f) (omega (arith, within-is 97 102 c f))
    go false false true e f g = rw (e, f, g) (omega (arith, within-is 65 70 c g))
    go false false false e f g = rw (e, f, g) (omega arith)

-- a number of up to four digits
pub hex_number-most : (s : List ℕ) → length s ≤ 4 → hex_number s < 65536
unfolding hex_number_from
hex_number-most [] h = omega arith
hex_number-most (a ∷ []) h = omega (arith, hex_value-most a)
hex_number-most (a ∷ b ∷ []) h = omega (arith, hex_value-most a, hex_value-most b)
hex_number-most (a ∷ b ∷ c ∷ []) h = omega (arith, hex_value-most a, hex_value-most b, hex_value-most c)
hex_number-most (a ∷ b ∷ c ∷ d ∷ []) h = omega (arith, hex_value-most a, hex_value-most b, hex_value-most c, hex_value-most d)
hex_number-most (a ∷ b ∷ c ∷ d ∷ e ∷ s) h = absurd (omega arith)
