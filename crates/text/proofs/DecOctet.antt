-- The dec-octets of RFC 3986 are the numbers up to 255. What follows an alternative lies between the number of its first bytes and that of its last, which are
-- those of the RFC's comments: 0-9, 10-99, 100-199, 200-249, 250-255. Assumes nothing.
use mathlib.Core.Bool.{Bool, true, false, true≢false, ◌&&◌}
use mathlib.Core.List.{List, [], ◌∷◌, map}
use mathlib.Core.Logic.{⊎_elim}
use mathlib.Core.Path.{◌≡◌, refl, sym}
use Prim.Native.Nat.{ℕ, ◌+◌, ◌-◌, ◌*◌, ◌/◌, ◌%◌, ◌≤◌, ◌<◌}
use native.Mathlib.Omega.{arith}
use lib.Dec.{eqb, leb, ltb}
use lib.ListN.{length}
use borrow.Author.Tests.{leb-true, le-leb, lt-leb, eqb-false, ne_eqb, ltb-true, ltb-false, not-true}
use Rattle.nets.proofs.Strings.{and_left, and_right, and_both, or_cases, bool_iff}
use Rattle.text_decimal.specs.Spans.{all_of}
use Rattle.text_decimal.specs.Decimal.{is_digit, all_digits, decimal, decimal_from, plain, is_number, byte_of, digits_of}
use Rattle.text.specs.DecOctet.{within, follows, follows_one, dec_octet, is_dec_octet}
use Rattle.text_decimal.proofs.Numbers.{is_digit-is, is-is_digit, is_number-is, is-is_number}
use Rattle.text_decimal.proofs.Writing.{digits_of-cases}
use Rattle.text.proofs.Digits.{number-known}

-- The first and the last bytes of an alternative.
starts : List (ℕ × ℕ) → List ℕ
starts p = map (λ r. r.0) p

ends : List (ℕ × ℕ) → List ℕ
ends p = map (λ r. r.1) p

within-is : (r : ℕ × ℕ) (c : ℕ) → within r c ≡ true → (r.0 ≤ c) × (c ≤ r.1)
within-is r c e = (leb-true r.0 c (and_left (leb r.0 c) (leb c r.1) e), leb-true c r.1 (and_right (leb r.0 c) (leb c r.1) e))

follows-digits : (p : List (ℕ × ℕ)) (s : List ℕ) → all_digits (starts p) ≡ true → all_digits (ends p) ≡ true → follows p s ≡ true → all_digits s ≡ true
unfolding follows all_of starts ends
follows-digits [] [] a b f = refl
follows-digits [] (c ∷ s) a b f = absurd (true≢false (sym f))
follows-digits (r ∷ p) [] a b f = absurd (true≢false (sym f))
follows-digits (r ∷ p) (c ∷ s) a b f =
    let w = within-is r c (and_right (follows p s) (within r c) f) in
    let x = is_digit-is r.0 (and_left (is_digit r.0) (all_digits (starts p)) a) in
    let y = is_digit-is r.1 (and_left (is_digit r.1) (all_digits (ends p)) b) in
    and_both (is_digit c) (all_digits s) (is-is_digit c (omega arith) (omega arith))
    (follows-digits p s (and_right (is_digit r.0) (all_digits (starts p)) a) (and_right (is_digit r.1) (all_digits (ends p)) b)
    (and_left (follows p s) (within r c) f))

follows-plain : (p : List (ℕ × ℕ)) (s : List ℕ) → all_digits (starts p) ≡ true → plain (starts p) ≡ true → follows p s ≡ true → plain s ≡ true
unfolding follows plain all_of starts
follows-plain [] [] a b f = refl
follows-plain [] (c ∷ s) a b f = absurd (true≢false (sym f))
follows-plain (r ∷ p) [] a b f = absurd (true≢false (sym f))
follows-plain (r ∷ p) (c ∷ []) a b f = refl
follows-plain (r ∷ []) (c ∷ d ∷ s) a b f = absurd (true≢false (sym f))
follows-plain (r ∷ q ∷ p) (c ∷ d ∷ s) a b f =
    let w = within-is r c (and_right (follows (q ∷ p) (d ∷ s)) (within r c) f) in
    let x = is_digit-is r.0 (and_left (is_digit r.0) (all_digits (starts (q ∷ p))) a) in
    let z = eqb-false r.0 48 (not-true (eqb r.0 48) b) in
    rw (ne_eqb c 48 (omega arith))

follows-some : (p : List (ℕ × ℕ)) (s : List ℕ) → 1 ≤ length (starts p) → follows p s ≡ true → 1 ≤ length s
unfolding follows starts
follows-some [] s h f = absurd (omega arith)
follows-some (r ∷ p) [] h f = absurd (true≢false (sym f))
follows-some (r ∷ p) (c ∷ s) h f = omega arith

follows-most : (v w : ℕ) (p : List (ℕ × ℕ)) (s : List ℕ) → v ≤ w → follows p s ≡ true → decimal_from v s ≤ decimal_from w (ends p)
unfolding follows decimal_from ends
follows-most v w [] [] h f = h
follows-most v w [] (c ∷ s) h f = absurd (true≢false (sym f))
follows-most v w (r ∷ p) [] h f = absurd (true≢false (sym f))
follows-most v w (r ∷ p) (c ∷ s) h f =
    let b = within-is r c (and_right (follows p s) (within r c) f) in
    follows-most (v * 10 + (c - 48)) (w * 10 + (r.1 - 48)) p s (omega arith) (and_left (follows p s) (within r c) f)

follows-number : (m : ℕ) (p : List (ℕ × ℕ)) (s : List ℕ) → is_number m (starts p) ≡ true → is_number m (ends p) ≡ true → follows p s ≡ true → is_number m s ≡ true
follows-number m p s a b f =
    let x = is_number-is m (starts p) a in
    let y = is_number-is m (ends p) b in
    is-is_number m s
    (record {
      digits = follows-digits p s x.digits y.digits f;
      some = follows-some p s x.some f;
      plain = follows-plain p s x.digits x.plain f;
      most = omega (arith, follows-most 0 0 p s (omega arith) f, y.most);
    })

-- What follows one of several alternatives, whose first and last bytes are numbers.
are_numbers : ℕ → List (List (ℕ × ℕ)) → Bool
are_numbers m [] = true
are_numbers m (p ∷ ps) = (is_number m (starts p) && is_number m (ends p)) && are_numbers m ps

follows_one-number : (m : ℕ) (ps : List (List (ℕ × ℕ))) (s : List ℕ) → are_numbers m ps ≡ true → follows_one ps s ≡ true → is_number m s ≡ true
unfolding follows_one are_numbers
follows_one-number m [] s n f = absurd (true≢false (sym f))
follows_one-number m (p ∷ ps) s n f =
    let h = and_left (is_number m (starts p) && is_number m (ends p)) (are_numbers m ps) n in
    ⊎_elim (follows-number m p s (and_left (is_number m (starts p)) (is_number m (ends p)) h) (and_right (is_number m (starts p)) (is_number m (ends p)) h))
    (follows_one-number m ps s (and_right (is_number m (starts p) && is_number m (ends p)) (are_numbers m ps) n)) (or_cases (follows p s) (follows_one ps s) f)

pub octet-number : (s : List ℕ) → is_dec_octet s ≡ true → is_number 255 s ≡ true
unfolding is_dec_octet are_numbers starts ends is_number all_of is_digit plain decimal_from
octet-number s f = follows_one-number 255 dec_octet s refl f

-- The digits of a number up to 255 follow one of the alternatives.
within-le : (a b c : ℕ) → a ≤ c → c ≤ b → within (a, b) c ≡ true
within-le a b c h g = rw (le-leb a c h, le-leb c b g)

within-past : (a b c : ℕ) → b < c → within (a, b) c ≡ false
within-past a b c h = go (leb a c)
  where
    go : (t : Bool) → (t && leb c b) ≡ false
    go true = lt-leb c b h
    go false = refl

octet-three : (x : ℕ) → 100 ≤ x → x ≤ 255 → is_dec_octet (byte_of (x / 100) ∷ byte_of (x / 10 % 10) ∷ byte_of (x % 10) ∷ []) ≡ true
unfolding is_dec_octet follows_one follows
octet-three x h l = go (ltb x 200) (ltb x 250) refl refl
  where
    go : (a b : Bool) → ltb x 200 ≡ a → ltb x 250 ≡ b → is_dec_octet (byte_of (x / 100) ∷ byte_of (x / 10 % 10) ∷ byte_of (x % 10) ∷ []) ≡ true
    go true b e g =
        let k = ltb-true x 200 e in
        rw (
          within-le 48 57 (byte_of (x % 10)) (omega arith) (omega arith),
          within-le 48 57 (byte_of (x / 10 % 10)) (omega arith) (omega arith),
          within-le 49 49 (byte_of (x / 100)) (omega arith) (omega arith),
        )
    go false true e g =
        let k = ltb-false x 200 e in
        let j = ltb-true x 250 g in
        rw (
          within-le 48 57 (byte_of (x % 10)) (omega arith) (omega arith),
          within-le 48 57 (byte_of (x / 10 % 10)) (omega arith) (omega arith),
          within-past 49 49 (byte_of (x / 100)) (omega arith),
          within-le 48 52 (byte_of (x / 10 % 10)) (omega arith) (omega arith),
          within-le 50 50 (byte_of (x / 100)) (omega arith) (omega arith),
        )
    go false false e g =
        let j = ltb-false x 250 g in
        rw (
          within-le 48 57 (byte_of (x % 10)) (omega arith) (omega arith),
          within-le 48 57 (byte_of (x / 10 % 10)) (omega arith) (omega arith),
          within-past 49 49 (byte_of (x / 100)) (omega arith),
          within-past 48 52 (byte_of (x / 10 % 10)) (omega arith),
          within-le 48 53 (byte_of (x % 10)) (omega arith) (omega arith),
          within-le 53 53 (byte_of (x / 10 % 10)) (omega arith) (omega arith),
          within-le 50 50 (byte_of (x / 100)) (omega arith) (omega arith),
        )

octet-digits_of : (x : ℕ) → x ≤ 255 → is_dec_octet (digits_of x) ≡ true
unfolding is_dec_octet follows_one follows
octet-digits_of x l =
    digits_of-cases (λ s. is_dec_octet s ≡ true) x (λ h. rw (within-le 48 57 (byte_of x) (omega arith) (omega arith)))
    (λ h g. rw (within-le 48 57 (byte_of (x % 10)) (omega arith) (omega arith), within-le 49 57 (byte_of (x / 10)) (omega arith) (omega arith)))
    (λ h. octet-three x h l)

pub number-octet : (s : List ℕ) → is_number 255 s ≡ true → is_dec_octet s ≡ true
number-octet s h = rw (number-known 255 s (omega arith) h) (octet-digits_of (decimal s) (is_number-is 255 s h).most)

-- The rule of the RFC and the rule for a number are one.
pub is_dec_octet-is : (s : List ℕ) → is_dec_octet s ≡ is_number 255 s
is_dec_octet-is s = bool_iff (is_dec_octet s) (is_number 255 s) (octet-number s) (number-octet s)
