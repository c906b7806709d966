-- A network as a range of numbers: it holds the addresses from its first to its last one (`leads-range`). Networks in address order, none inside another, are
-- ranges one behind the other. Assumes nothing.
use Rattle.std.proofs.Common.{◌≡◌, ℕ, suc, ◌+◌, ◌-◌, ◌*◌, ◌/◌, ◌^◌, ◌<◌, ◌≤◌, Bool, true, false, not, ◌&&◌, eqb, ltb, leb, ◌⊎◌, List, [], ◌∷◌, length, sym, refl, ap, ◌∙◌, inl, inr, mul-le-mul_right, mod-lt, mod-eq_of_lt, add-mul, one-mul, div-add-mod', arith, pow_pos, pow-add, shl_lt, ltb-true, eq-eqb, eqb-true, le-leb, leb-true}
use mathlib.Core.Bool.{false≢true}
use native.Mathlib.Decide.{dec_lt, dec_le}
use native.Mathlib.Nat.{div-eq_of_lt-le}
use borrow.Author.Tests.{not-true}
use Rattle.nets.specs.Bits.{Bits, leads, val, bits}
use Rattle.nets.specs.Lists.{any_of, covers, within}
use Rattle.nets.proofs.Strings.{and_left, and_right, and_both, or_cases, bool_iff, leads-shorter}
use Rattle.nets.proofs.Numbers.{length-bits, val-bits, bits-val, leads-number}
use Rattle.nets.proofs.Order.{val-high}
use Rattle.address_order.specs.Streams.{earlier, rising, loose}
use Rattle.address_order.proofs.AddressOrder.{number, earlier-number, leads-later}
use Rattle.setfile_sides.specs.Sides.{first_of, last_of}

abbrev pub between : ℕ → ℕ → ℕ → Bool
between x y n = leb x n && leb n y

pub between_is : (x y n : ℕ) → x ≤ n → n ≤ y → between x y n ≡ true
between_is x y n h k = and_both (leb x n) (leb n y) (le-leb x n h) (le-leb n y k)

pub is-between : (x y n : ℕ) → between x y n ≡ true → (x ≤ n) × (n ≤ y)
is-between x y n e = (leb-true x n (and_left (leb x n) (leb n y) e), leb-true n y (and_right (leb x n) (leb n y) e))

pub between-not : (x y n : ℕ) → ((x ≤ n) × (n ≤ y) → ⊥) → between x y n ≡ false
between-not x y n h = go (between x y n) refl
  where
    go : (b : Bool) → between x y n ≡ b → between x y n ≡ false
    go true e = absurd (h (is-between x y n e))
    go false e = e

-- A quotient, by the numbers that have it.
quotient : (y m n : ℕ) → 0 < m → eqb y (n / m) ≡ between (y * m) (y * m + (m - 1)) n
quotient y m n h = bool_iff (eqb y (n / m)) (between (y * m) (y * m + (m - 1)) n) there back
  where
    there : eqb y (n / m) ≡ true → between (y * m) (y * m + (m - 1)) n ≡ true
    there e =
        let f : y * m ≡ n / m * m = ap (λ z. z * m) (eqb-true y (n / m) e) in
        between_is (y * m) (y * m + (m - 1)) n (omega (arith, div-add-mod' n m)) (omega (arith, div-add-mod' n m, mod-lt n h))

    back : between (y * m) (y * m + (m - 1)) n ≡ true → eqb y (n / m) ≡ true
    back e =
        let (i, j) = is-between (y * m) (y * m + (m - 1)) n e in
        eq-eqb y (n / m) (sym (div-eq_of_lt-le m i (omega (arith, add-mul y 1 m, one-mul m))))

pub leads-range : (w : ℕ) (p a : Bits) → length p ≤ w → length a ≡ w → leads p a ≡ between (first_of w p) (last_of w p) (val a)
unfolding first_of last_of
leads-range w p a h e =
    let k = w - length p in
    let s : length p + k ≡ w = omega arith in
    let i : val a < 2 ^ (length p + k) = rw (s, ← e) (val-high a) in
    let j : leads (bits (length p) (val p)) (bits (length p + k) (val a)) ≡ eqb (val p) (val a / 2 ^ k) = leads-number (length p) k (val p) (val a)
    (val-high p) i in
    let l : bits (length p + k) (val a) ≡ a = rw s (bits-val w a e) in
    (rw (bits-val (length p) p refl, l) at j) ∙ quotient (val p) (2 ^ k) (val a) (pow_pos k)

-- The address of a number.
pub first-high : (w : ℕ) (p : Bits) → length p ≤ w → first_of w p < 2 ^ w
unfolding first_of
first-high w p h = let e : length p + (w - length p) ≡ w = omega arith in rw e at (shl_lt (length p) (w - length p) (val-high p))

pub last-high : (w : ℕ) (p : Bits) → length p ≤ w → last_of w p < 2 ^ w
unfolding first_of last_of
last-high w p h =
    let k = w - length p in
    let e : length p + k ≡ w = omega arith in
    let v : suc (val p) * 2 ^ k ≤ 2 ^ length p * 2 ^ k = mul-le-mul_right (2 ^ k) (val-high p) in
    omega (arith, v, pow-add 2 (length p) k, ap (λ z. 2 ^ z) e, add-mul 1 (val p) (2 ^ k), one-mul (2 ^ k), pow_pos k)

pub address-of : (w n : ℕ) → n < 2 ^ w → val (bits w n) ≡ n
address-of w n h = val-bits w n ∙ mod-eq_of_lt h

pub first-last : (w : ℕ) (p : Bits) → first_of w p ≤ last_of w p
unfolding last_of
first-last w p = omega arith

-- A network that is earlier than another, which does not lie inside it, ends before that one begins.
module _ (w : ℕ) (p q : Bits) (h : length p ≤ w) (k : length q ≤ w) (e : earlier p q ≡ true) (n : leads p q ≡ false) where
  first-le : first_of w p ≤ first_of w q
  unfolding first_of
  first-le = go (or_cases (ltb (number w p) (number w q)) (eqb (number w p) (number w q) && ltb (length p) (length q)) (sym (earlier-number w p q h k) ∙ e))
    where
      go : (ltb (number w p) (number w q) ≡ true) ⊎ ((eqb (number w p) (number w q) && ltb (length p) (length q)) ≡ true) → number w p ≤ number w q
      go (inl x) = omega (arith, ltb-true (number w p) (number w q) x)
      go (inr x) = omega (arith, eqb-true (number w p) (number w q) (and_left (eqb (number w p) (number w q)) (ltb (length p) (length q)) x))

  both : leads p (bits w (first_of w q)) ≡ true → leads q (bits w (first_of w q)) ≡ true → ⊥
  both x y = go (dec_le (length p) (length q))
    where
      go : Dec (length p ≤ length q) → ⊥
      go (yes z) = false≢true (sym n ∙ leads-shorter p q (bits w (first_of w q)) x y z)
      go (no z) = false≢true (sym (leads-later p q e) ∙ leads-shorter q p (bits w (first_of w q)) y x (omega arith))

  pub ends-before : last_of w p < first_of w q
  ends-before = go (dec_lt (last_of w p) (first_of w q))
    where
      a : Bits
      a = bits w (first_of w q)

      v : val a ≡ first_of w q
      v = address-of w (first_of w q) (first-high w q k)

      self : leads q a ≡ true
      self = leads-range w q a k (length-bits w (first_of w q)) ∙ rw v (between_is (first_of w q) (last_of w q) (first_of w q) (omega arith) (first-last w q))

      go : Dec (last_of w p < first_of w q) → last_of w p < first_of w q
      go (yes x) = x
      go (no x) =
          absurd
          (both (leads-range w p a h (length-bits w (first_of w q)) ∙ rw v (between_is (first_of w p) (last_of w p) (first_of w q) first-le (omega arith))) self)

-- So networks in address order, none inside another, are ranges one behind the other, from x on.
abbrev pub Spread : ℕ → ℕ → List Bits → Type 0
Spread w x [] = Unit {0}
Spread w x (p ∷ ms) = (x ≤ first_of w p) × Spread w (suc (last_of w p)) ms

spread : (w x : ℕ) (p : Bits) (ms : List Bits) → x ≤ first_of w p → rising (p ∷ ms) ≡ true → loose (p ∷ ms) ≡ true → within w (p ∷ ms) ≡ true
    → Spread w x (p ∷ ms)
unfolding rising loose
spread w x p [] h r l i = (h, tt)
spread w x p (q ∷ ms) h r l i =
    let j = and_right (leb (length p) w) (within w (q ∷ ms)) i in
    let b = ends-before w p q (leb-true (length p) w (and_left (leb (length p) w) (within w (q ∷ ms)) i))
    (leb-true (length q) w (and_left (leb (length q) w) (within w ms) j))
    (and_left (earlier p q) (rising (q ∷ ms)) r) (not-true (leads p q) (and_left (not (leads p q)) (loose (q ∷ ms)) l)) in
    (h, spread w (suc (last_of w p)) q ms (omega arith) (and_right (earlier p q) (rising (q ∷ ms)) r) (and_right (not (leads p q)) (loose (q ∷ ms)) l) j)

pub spread-all : (w : ℕ) (ms : List Bits) → rising ms ≡ true → loose ms ≡ true → within w ms ≡ true → Spread w 0 ms
spread-all w [] r l i = tt
spread-all w (p ∷ ms) r l i = spread w 0 p ms (omega arith) r l i

-- What networks hold, by number.
abbrev pub holds : ℕ → List Bits → ℕ → Bool
holds w ms n = any_of (λ p. between (first_of w p) (last_of w p) n) ms

pub covers-holds : (w : ℕ) (ms : List Bits) (a : Bits) → within w ms ≡ true → length a ≡ w → covers ms a ≡ holds w ms (val a)
covers-holds w [] a i e = refl
covers-holds w (p ∷ ms) a i e =
    rw (
      leads-range w p a (leb-true (length p) w (and_left (leb (length p) w) (within w ms) i)) e,
      covers-holds w ms a
          (and_right (leb (length p) w) (within w ms) i) e,
    )

pub holds-below : (w x : ℕ) (ms : List Bits) (n : ℕ) → Spread w x ms → n < x → holds w ms n ≡ false
holds-below w x [] n s h = refl
holds-below w x (p ∷ ms) n s h =
    rw
    (between-not (first_of w p) (last_of w p) n (λ i. omega (arith, i, s.0)), holds-below w (suc (last_of w p)) ms n s.1 (omega (arith, s.0, first-last w p)))
