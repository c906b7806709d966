-- What is written: the digits of a number case by case, and stores one behind another. Assumes nothing.
use mathlib.Core.Bool.{Bool, true, false}
use mathlib.Core.List.{List, [], ◌∷◌, ◌++◌}
use mathlib.Core.Path.{◌≡◌, refl, ◌∙◌}
use Prim.Native.Nat.{ℕ, suc, ◌+◌, ◌/◌, ◌%◌, ◌≤◌, ◌<◌}
use native.Mathlib.Nat.{add-zero}
use native.Mathlib.Omega.{arith}
use lib.Dec.{ltb}
use lib.ListN.{length, set, length-append}
use lib.Seq.{sets}
use borrow.Author.Tests.{ltb-true, ltb-false, lt-ltb, le-ltb, ne_eqb}
use Rattle.text_decimal.specs.Spans.{all_of}
use Rattle.text_decimal.specs.Decimal.{is_digit, all_digits, decimal, decimal_from, is_number, plain, byte_of, digits_of}
use Rattle.text_decimal.specs.Places.{Stored}
use Rattle.text_decimal.proofs.Numbers.{is-is_digit, is-is_number}

-- The digits of a number.
pub digits_of-one : (x : ℕ) → x < 10 → digits_of x ≡ byte_of x ∷ []
unfolding digits_of
digits_of-one x h = rw (lt-ltb x 10 h)

pub digits_of-two : (x : ℕ) → 10 ≤ x → x < 100 → digits_of x ≡ byte_of (x / 10) ∷ byte_of (x % 10) ∷ []
unfolding digits_of
digits_of-two x h g = rw (le-ltb x 10 h, lt-ltb x 100 g)

pub digits_of-three : (x : ℕ) → 100 ≤ x → digits_of x ≡ byte_of (x / 100) ∷ byte_of (x / 10 % 10) ∷ byte_of (x % 10) ∷ []
unfolding digits_of
digits_of-three x h = rw (le-ltb x 10 (omega arith), le-ltb x 100 h)

pub digits_of-cases : (P : List ℕ → Type 0) (x : ℕ)
    → (x < 10 → P (byte_of x ∷ []))
    → (10 ≤ x → x < 100 → P (byte_of (x / 10) ∷ byte_of (x % 10) ∷ []))
    → (100 ≤ x → P (byte_of (x / 100) ∷ byte_of (x / 10 % 10) ∷ byte_of (x % 10) ∷ []))
    → P (digits_of x)
digits_of-cases P x f g h = go (ltb x 10) (ltb x 100) refl refl
  where
    go : (a b : Bool) → ltb x 10 ≡ a → ltb x 100 ≡ b → P (digits_of x)
    go true b d e = rw (digits_of-one x (ltb-true x 10 d)) (f (ltb-true x 10 d))
    go false true d e = rw (digits_of-two x (ltb-false x 10 d) (ltb-true x 100 e)) (g (ltb-false x 10 d) (ltb-true x 100 e))
    go false false d e = rw (digits_of-three x (ltb-false x 100 e)) (h (ltb-false x 100 e))

pub length-digits_of : (x : ℕ) → length (digits_of x) ≤ 3
length-digits_of x = digits_of-cases (λ s. length s ≤ 3) x (λ h. omega arith) (λ h k. omega arith) (λ h. omega arith)

pub length-digits_of-two : (x : ℕ) → x < 100 → length (digits_of x) ≤ 2
length-digits_of-two x g = digits_of-cases (λ s. length s ≤ 2) x (λ h. omega arith) (λ h k. omega arith) (λ h. absurd (omega arith))

is_digit-byte_of : (d : ℕ) → d < 10 → is_digit (byte_of d) ≡ true
is_digit-byte_of d h = is-is_digit (byte_of d) (omega arith) (omega arith)

all_digits-digits_of : (x : ℕ) → x < 1000 → all_digits (digits_of x) ≡ true
unfolding all_of
all_digits-digits_of x g =
    digits_of-cases (λ s. all_digits s ≡ true) x (λ h. rw (is_digit-byte_of x h))
    (λ h k. rw (is_digit-byte_of (x / 10) (omega arith), is_digit-byte_of (x % 10) (omega arith)))
    (λ h. rw (is_digit-byte_of (x / 100) (omega arith), is_digit-byte_of (x / 10 % 10) (omega arith), is_digit-byte_of (x % 10) (omega arith)))

pub decimal-digits_of : (x : ℕ) → decimal (digits_of x) ≡ x
unfolding decimal_from
decimal-digits_of x = digits_of-cases (λ s. decimal s ≡ x) x (λ h. omega arith) (λ h k. omega arith) (λ h. omega arith)

plain-digits_of : (x : ℕ) → plain (digits_of x) ≡ true
unfolding plain
plain-digits_of x =
    digits_of-cases (λ s. plain s ≡ true) x (λ h. refl)
    (λ h k. rw (ne_eqb (byte_of (x / 10)) 48 (omega arith)))
    (λ h. rw (ne_eqb (byte_of (x / 100)) 48 (omega arith)))

-- a number within its limit is written as a number of the grammar
pub is_number-digits_of : (m x : ℕ) → x < 1000 → x ≤ m → is_number m (digits_of x) ≡ true
is_number-digits_of m x g h =
    is-is_number m (digits_of x)
    (record {
      digits = all_digits-digits_of x g;
      some = digits_of-cases (λ s. 1 ≤ length s) x (λ h. omega arith) (λ h k. omega arith) (λ h. omega arith);
      plain = plain-digits_of x;
      most = rw (decimal-digits_of x) h;
    })

-- Stores behind stores.
sets-append : (w : List ℕ) (p : ℕ) (s t : List ℕ) → sets (sets w p s) (p + length s) t ≡ sets w p (s ++ t)
sets-append w p [] t = rw (add-zero p)
sets-append w p (c ∷ s) t = let e : p + suc (length s) ≡ suc p + length s = omega arith in rw e (sets-append (set w p c) (suc p) s t)

pub stored-append : {w v u s t : List ℕ} {p q r : ℕ} → Stored w p s v q → Stored v q t u r → Stored w p (s ++ t) u r
stored-append {w} {v} {u} {s} {t} {p} {q} {r} h k =
    record {
      place = k.place ∙ omega (arith, h.place, length-append s t);
      bytes = k.bytes ∙ rw (h.bytes, h.place) (sets-append w p s t);
    }
