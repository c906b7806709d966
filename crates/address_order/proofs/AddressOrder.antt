-- The address order of bit strings: of two different strings one is earlier, and earlier than earlier is earlier. It is the order of their first addresses, the shorter first
-- where these are equal (`earlier-number`). What lies inside a network stands right behind it (`leads-between`). Assumes nothing.
use mathlib.Core.Bool.{Bool, true, false, cond, ◌&&◌, ◌||◌, false≢true, beq as same}
use mathlib.Core.List.{[], ◌∷◌}
use mathlib.Core.Path.{◌≡◌, refl, ap, sym, ◌∙◌}
use Prim.Native.Nat.{ℕ, zero, suc, ◌+◌, ◌-◌, ◌*◌, ◌^◌, ◌≤◌, ◌<◌}
use native.Mathlib.Nat.{add-mul, zero-mul, mul_assoc}
use native.Mathlib.Decide.{dec_lt}
use native.Mathlib.Omega.{arith}
use lib.Dec.{eqb, ltb}
use lib.ListN.{length}
use lib.Pow.{pow-add, shl_lt}
use borrow.Author.Tests.{ltb-true, lt-ltb, le-ltb, eq-eqb, ne_eqb}
use Rattle.nets.specs.Bits.{Bits, leads, equal, digit, val}
use Rattle.nets.proofs.Strings.{bool_iff, same_refl, equal_is}
use Rattle.nets.proofs.Order.{val-high}
use Rattle.address_order.specs.Streams.{earlier}

-- Irreflexive, transitive, total.
pub earlier-self : (p : Bits) → earlier p p ≡ false
earlier-self [] = refl
earlier-self (b ∷ p) = simp (same_refl, earlier-self p)

pub earlier-trans : (p q r : Bits) → earlier p q ≡ true → earlier q r ≡ true → earlier p r ≡ true
earlier-trans [] [] r e f = f
earlier-trans [] (c ∷ q) [] e f = f
earlier-trans [] (c ∷ q) (d ∷ r) e f = refl
earlier-trans (b ∷ p) [] r e f = absurd (false≢true e)
earlier-trans (b ∷ p) (c ∷ q) [] e f = f
earlier-trans (false ∷ p) (false ∷ q) (false ∷ r) e f = earlier-trans p q r e f
earlier-trans (false ∷ p) (false ∷ q) (true ∷ r) e f = refl
earlier-trans (false ∷ p) (true ∷ q) (false ∷ r) e f = absurd (false≢true f)
earlier-trans (false ∷ p) (true ∷ q) (true ∷ r) e f = refl
earlier-trans (true ∷ p) (false ∷ q) (d ∷ r) e f = absurd (false≢true e)
earlier-trans (true ∷ p) (true ∷ q) (false ∷ r) e f = f
earlier-trans (true ∷ p) (true ∷ q) (true ∷ r) e f = earlier-trans p q r e f

pub earlier-total : (p q : Bits) → earlier p q ≡ false → earlier q p ≡ false → p ≡ q
earlier-total [] [] e f = refl
earlier-total [] (c ∷ q) e f = absurd (false≢true (sym e))
earlier-total (b ∷ p) [] e f = absurd (false≢true (sym f))
earlier-total (false ∷ p) (false ∷ q) e f = ap (λ z. false ∷ z) (earlier-total p q e f)
earlier-total (false ∷ p) (true ∷ q) e f = absurd (false≢true (sym e))
earlier-total (true ∷ p) (false ∷ q) e f = absurd (false≢true (sym f))
earlier-total (true ∷ p) (true ∷ q) e f = ap (λ z. true ∷ z) (earlier-total p q e f)

pub earlier-not : (p q : Bits) → earlier p q ≡ true → earlier q p ≡ false
earlier-not p q e = go (earlier q p) refl
  where
    go : (x : Bool) → earlier q p ≡ x → earlier q p ≡ false
    go true f = absurd (false≢true (sym (earlier-self p) ∙ earlier-trans p q p e f))
    go false f = f

pub earlier-equal : (p q : Bits) → earlier p q ≡ true → equal p q ≡ false
earlier-equal p q e = go (equal p q) refl
  where
    go : (x : Bool) → equal p q ≡ x → equal p q ≡ false
    go true f = absurd (false≢true (sym (earlier-self p) ∙ ap (earlier p) (equal_is p q f) ∙ e))
    go false f = f

-- A network is earlier than what lies inside it, and nothing else stands between the two.
pub leads-later : (p q : Bits) → earlier p q ≡ true → leads q p ≡ false
leads-later [] [] e = absurd (false≢true e)
leads-later [] (c ∷ q) e = refl
leads-later (b ∷ p) [] e = absurd (false≢true e)
leads-later (false ∷ p) (false ∷ q) e = leads-later p q e
leads-later (false ∷ p) (true ∷ q) e = refl
leads-later (true ∷ p) (false ∷ q) e = refl
leads-later (true ∷ p) (true ∷ q) e = leads-later p q e

pub leads-between : (p q r : Bits) → earlier p q ≡ true → earlier q r ≡ true → leads p r ≡ true → leads p q ≡ true
leads-between [] q r e f h = refl
leads-between (b ∷ p) [] r e f h = absurd (false≢true e)
leads-between (b ∷ p) (c ∷ q) [] e f h = absurd (false≢true h)
leads-between (false ∷ p) (false ∷ q) (false ∷ r) e f h = leads-between p q r e f h
leads-between (false ∷ p) (false ∷ q) (true ∷ r) e f h = absurd (false≢true h)
leads-between (false ∷ p) (true ∷ q) (false ∷ r) e f h = absurd (false≢true f)
leads-between (false ∷ p) (true ∷ q) (true ∷ r) e f h = absurd (false≢true h)
leads-between (true ∷ p) (false ∷ q) (d ∷ r) e f h = absurd (false≢true e)
leads-between (true ∷ p) (true ∷ q) (false ∷ r) e f h = absurd (false≢true h)
leads-between (true ∷ p) (true ∷ q) (true ∷ r) e f h = leads-between p q r e f h

-- The first address of a network, of w bits; and the order of two pairs of numbers.
abbrev pub number : ℕ → Bits → ℕ
number w p = val p * 2 ^ (w - length p)

abbrev less : ℕ → ℕ → ℕ → ℕ → Bool
less a b m n = ltb a b || (eqb a b && ltb m n)

module _ (a b m n : ℕ) where
  less-lt : a < b → less a b m n ≡ true
  less-lt h = rw (lt-ltb a b h)

  less-gt : b < a → less a b m n ≡ false
  less-gt h = rw (le-ltb a b (omega arith), ne_eqb a b (omega arith))

  less-eq : a ≡ b → less a b m n ≡ ltb m n
  less-eq h = rw (le-ltb a b (omega arith), eq-eqb a b h)

-- the same added on both sides changes nothing
less-add : (x a b m n : ℕ) → less (x + a) (x + b) (suc m) (suc n) ≡ less a b m n
less-add x a b m n = go (dec_lt a b) (dec_lt b a)
  where
    sucs : ltb (suc m) (suc n) ≡ ltb m n
    sucs = bool_iff (ltb (suc m) (suc n)) (ltb m n) (λ e. lt-ltb m n (omega (arith, ltb-true (suc m) (suc n) e))) (λ e. lt-ltb (suc m) (suc n) (omega (arith, ltb-true m n e)))

    go : Dec (a < b) → Dec (b < a) → less (x + a) (x + b) (suc m) (suc n) ≡ less a b m n
    go (yes h) k = less-lt (x + a) (x + b) (suc m) (suc n) (omega arith) ∙ sym (less-lt a b m n h)
    go (no h) (yes k) = less-gt (x + a) (x + b) (suc m) (suc n) (omega arith) ∙ sym (less-gt a b m n k)
    go (no h) (no k) = less-eq (x + a) (x + b) (suc m) (suc n) (omega arith) ∙ sucs ∙ sym (less-eq a b m n (omega arith))

number-high : (w : ℕ) (p : Bits) → length p ≤ w → number w p < 2 ^ w
number-high w p h = let e : length p + (w - length p) ≡ w = omega arith in rw e at (shl_lt (length p) (w - length p) (val-high p))

pub number-cons : (w : ℕ) (b : Bool) (p : Bits) → length p ≤ w → number (suc w) (b ∷ p) ≡ digit b * 2 ^ w + number w p
number-cons w b p h =
    let e : suc w - suc (length p) ≡ w - length p = omega arith in
    let g : length p + (w - length p) ≡ w = omega arith in
    rw (e, add-mul, mul_assoc, ← pow-add 2 (length p) (w - length p), g)

-- one bit in front of each
less-cons : (b c : Bool) (x y z m n : ℕ) (s : Bool) → y < x → z < x → s ≡ less y z m n → cond (same b c) s c ≡ less (digit b * x + y) (digit c * x + z) (suc m) (suc n)
less-cons false false x y z m n s h k e = e ∙ sym (less-add (0 * x) y z m n)
less-cons false true x y z m n s h k e = sym (less-lt (0 * x + y) (1 * x + z) (suc m) (suc n) (omega arith))
less-cons true false x y z m n s h k e = sym (less-gt (1 * x + y) (0 * x + z) (suc m) (suc n) (omega arith))
less-cons true true x y z m n s h k e = e ∙ sym (less-add (1 * x) y z m n)

-- against the empty string
less_zero : (a m n : ℕ) → m < n → less 0 a m n ≡ true
less_zero zero m n h = lt-ltb m n h
less_zero (suc a) m n h = less-lt 0 (suc a) m n (omega arith)

zero-less : (a m n : ℕ) → n ≤ m → less a 0 m n ≡ false
zero-less zero m n h = le-ltb m n h
zero-less (suc a) m n h = less-gt (suc a) 0 m n (omega arith)

pub earlier-number : (w : ℕ) (p q : Bits) → length p ≤ w → length q ≤ w → earlier p q ≡ (ltb (number w p) (number w q) || (eqb (number w p) (number w q) && ltb (length p) (length q)))
earlier-number w [] [] h k = rw (zero-mul (2 ^ (w - 0)))
earlier-number w [] (c ∷ q) h k = rw (zero-mul (2 ^ (w - 0))) (sym (less_zero (number w (c ∷ q)) 0 (suc (length q)) (omega arith)))
earlier-number w (b ∷ p) [] h k = rw (zero-mul (2 ^ (w - 0))) (sym (zero-less (number w (b ∷ p)) (suc (length p)) 0 (omega arith)))
earlier-number zero (b ∷ p) (c ∷ q) h k = absurd (omega arith)
earlier-number (suc w) (b ∷ p) (c ∷ q) h k =
    let i : length p ≤ w = omega arith in
    let j : length q ≤ w = omega arith in
    rw (number-cons w b p i, number-cons w c q j)
    (less-cons b c (2 ^ w) (number w p) (number w q) (length p) (length q) (earlier p q) (number-high w p i) (number-high w q j) (earlier-number w p q i j))
