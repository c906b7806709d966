-- Overlap by the words of the bits: two networks overlap exactly if their numbers agree without the bits that the shorter does not have; and that by each
-- of the two words. Assumes nothing.
use mathlib.Core.Bool.{Bool, true, false, ◌&&◌, ◌||◌, or_comm}
use mathlib.Core.Path.{◌≡◌, refl, ap, sym, ◌∙◌}
use Prim.Native.Nat.{ℕ, ◌+◌, ◌-◌, ◌*◌, ◌/◌, ◌%◌, ◌^◌, ◌≤◌, ◌<◌, min}
use native.Mathlib.Decide.{dec_le}
use native.Mathlib.Nat.{mul_assoc, mul-add-div_right}
use native.Mathlib.Omega.{arith}
use borrow.Author.Tests.{eqb-true, eq-eqb}
use lib.Arith.{digits_lt}
use lib.Dec.{eqb}
use lib.ListN.{length, take}
use lib.Pow.{pow_pos, pow-add, shr_lt, shr-shr, high, low}
use Rattle.nets.specs.Bits.{Bits, leads, bits}
use Rattle.nets.specs.Networks.{value, bits_left}
use Rattle.nets.specs.declared.PrefixBits.{PrefixBits}
use Rattle.nets.proofs.Strings.{and_left, and_right, and_both, bool_iff, leads-refl, leads-all}
use Rattle.nets.proofs.Numbers.{length-bits, take-bits, leads-number}
use Rattle.inner_nets.specs.Inner.{overlap}

-- a network that is no longer overlaps where it leads
overlap-shorter : (p q : Bits) → length p ≤ length q → overlap p q ≡ leads p q
overlap-shorter p q h = go (leads p q) refl (leads q p) refl
  where
    go : (x : Bool) → leads p q ≡ x → (y : Bool) → leads q p ≡ y → (x || y) ≡ x
    go true e y f = refl
    go false e true f = sym (leads-refl p) ∙ ap (leads p) (sym (leads-all q p f h)) ∙ e
    go false e false f = refl

eqb_comm : (x y : ℕ) → eqb x y ≡ eqb y x
eqb_comm x y = bool_iff (eqb x y) (eqb y x) (λ e. eq-eqb y x (sym (eqb-true x y e))) (λ e. eq-eqb x y (sym (eqb-true y x e)))

module _ (w : ℕ) where
  take-number : (m a : ℕ) → m ≤ w → take m (bits w a) ≡ bits m (a / 2 ^ (w - m))
  take-number m a h = let e : m + (w - m) ≡ w = omega arith in rw e at (take-bits m (w - m) a)

  overlap-le : (m n a b : ℕ) → m ≤ n → n ≤ w → a < 2 ^ w → b < 2 ^ w → overlap (take m (bits w a)) (take n (bits w b)) ≡ eqb (a / 2 ^ (w - m)) (b / 2 ^ (w - m))
  overlap-le m n a b h k f g =
      let i : m + (w - m) ≡ w = omega arith in
      let j : n + (w - n) ≡ w = omega arith in
      let d : m + (n - m) ≡ n = omega arith in
      let s : (w - n) + (n - m) ≡ w - m = omega arith in
      let x = a / 2 ^ (w - m) in
      let y = b / 2 ^ (w - n) in
      let hx : x < 2 ^ m = shr_lt m (w - m) (rw i f) in
      let hy : y < 2 ^ (m + (n - m)) = rw d (shr_lt n (w - n) (rw j g)) in
      let t : leads (bits m x) (bits n y) ≡ eqb x (y / 2 ^ (n - m)) = rw d at (leads-number m (n - m) x y hx hy) in
      rw (take-number m a (omega arith), take-number n b k)
      (overlap-shorter (bits m x) (bits n y) (rw (length-bits m x, length-bits n y) h) ∙ t ∙ ap (eqb x) (shr-shr b (w - n) (n - m) ∙ ap (λ z. b / 2 ^ z) s))

  pub overlap-number : (m n a b : ℕ) → m ≤ w → n ≤ w → a < 2 ^ w → b < 2 ^ w
      → overlap (take m (bits w a)) (take n (bits w b)) ≡ eqb (a / 2 ^ (w - min m n)) (b / 2 ^ (w - min m n))
  overlap-number m n a b h k f g =
      elim (dec_le m n) [
        | yes l ↦ let e : min m n ≡ m = omega arith in rw e (overlap-le m n a b l k f g)
        | no l ↦
            let e : min m n ≡ n = omega arith in
            rw e
            (or_comm (leads (take m (bits w a)) (take n (bits w b))) (leads (take n (bits w b)) (take m (bits w a))) ∙ overlap-le n m b a (omega arith) h g f
            ∙ eqb_comm (b / 2 ^ (w - n)) (a / 2 ^ (w - n)))
      ]

-- Numbers of two words without their k low bits.
module _ (hi lo hi' lo' : ℕ) (h : lo < 2 ^ 64) (g : lo' < 2 ^ 64) where
  words-high : (k : ℕ) → 64 ≤ k → eqb (value hi lo / 2 ^ k) (value hi' lo' / 2 ^ k) ≡ eqb (hi / 2 ^ (k - 64)) (hi' / 2 ^ (k - 64))
  words-high k l =
      let e : 64 + (k - 64) ≡ k = omega arith in
      let t : (x y : ℕ) → y < 2 ^ 64 → value x y / 2 ^ k ≡ x / 2 ^ (k - 64) = λ x y z. ap (λ n. value x y / 2 ^ n) (sym e) ∙ sym (shr-shr (value x y) 64 (k - 64)) ∙ ap (λ n. n / 2 ^ (k - 64)) (high x 64 z) in
      rw (t hi lo h, t hi' lo' g)

  words-low : (k : ℕ) → k < 64 → eqb (value hi lo / 2 ^ k) (value hi' lo' / 2 ^ k) ≡ (eqb hi hi' && eqb (lo / 2 ^ k) (lo' / 2 ^ k))
  words-low k l =
      let e : (64 - k) + k ≡ 64 = omega arith in
      let t : (x y : ℕ) → value x y / 2 ^ k ≡ x * 2 ^ (64 - k) + y / 2 ^ k =
      λ x y.
      let p : x * 2 ^ 64 ≡ x * 2 ^ (64 - k) * 2 ^ k = ap (λ n. x * 2 ^ n) (sym e) ∙ ap (λ n. x * n) (pow-add 2 (64 - k) k) ∙ sym (mul_assoc x (2 ^ (64 - k)) (2 ^ k)) in
      rw (p, mul-add-div_right (pow_pos k) (x * 2 ^ (64 - k)) y) in
      let r : lo / 2 ^ k < 2 ^ (64 - k) = shr_lt (64 - k) k (rw e h) in
      let r' : lo' / 2 ^ k < 2 ^ (64 - k) = shr_lt (64 - k) k (rw e g) in
      rw (t hi lo, t hi' lo') (two hi (lo / 2 ^ k) hi' (lo' / 2 ^ k) (64 - k) r r')
    where
      two : (x y x' y' n : ℕ) → y < 2 ^ n → y' < 2 ^ n → eqb (x * 2 ^ n + y) (x' * 2 ^ n + y') ≡ (eqb x x' && eqb y y')
      two x y x' y' n r s =
          bool_iff (eqb (x * 2 ^ n + y) (x' * 2 ^ n + y')) (eqb x x' && eqb y y')
          (λ e.
          let q = eqb-true (x * 2 ^ n + y) (x' * 2 ^ n + y') e in
          and_both (eqb x x') (eqb y y') (eq-eqb x x' (sym (high x n r) ∙ ap (λ z. z / 2 ^ n) q ∙ high x' n s)) (eq-eqb y y' (sym (low x n r) ∙ ap (λ z. z % 2 ^ n) q ∙ low x' n s)))
          (λ e. eq-eqb (x * 2 ^ n + y) (x' * 2 ^ n + y') (rw (eqb-true x x' (and_left (eqb x x') (eqb y y') e), eqb-true y y' (and_right (eqb x x') (eqb y y') e))))

-- Of two iterators, where k bits are not the shorter's.
module _ (p q : PrefixBits) (k : ℕ) (lp : p.len ≤ 128) (lq : q.len ≤ 128) (ek : k ≡ 128 - min p.len q.len)
    (hp : p.hi < 2 ^ 64) (gp : p.lo < 2 ^ 64) (hq : q.hi < 2 ^ 64) (gq : q.lo < 2 ^ 64) where
  overlap-value : overlap (bits_left p) (bits_left q) ≡ eqb (value p.hi p.lo / 2 ^ k) (value q.hi q.lo / 2 ^ k)
  unfolding bits_left
  overlap-value = rw ek (overlap-number 128 p.len q.len (value p.hi p.lo) (value q.hi q.lo) lp lq (digits_lt hp gp) (digits_lt hq gq))

  pub overlap-high : 64 ≤ k → overlap (bits_left p) (bits_left q) ≡ eqb (p.hi / 2 ^ (k - 64)) (q.hi / 2 ^ (k - 64))
  overlap-high l = overlap-value ∙ words-high p.hi p.lo q.hi q.lo gp gq k l

  pub overlap-low : k < 64 → overlap (bits_left p) (bits_left q) ≡ (eqb p.hi q.hi && eqb (p.lo / 2 ^ k) (q.lo / 2 ^ k))
  overlap-low l = overlap-value ∙ words-low p.hi p.lo q.hi q.lo gp gq k l
