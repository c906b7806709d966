-- Leading bits in common, by the leading zeros of the exclusive or: two addresses agree without their s low bits exactly if it is below 2 ^ s. And the leading zeros of two words.
-- Assumes nothing.
use mathlib.Core.Path.{◌≡◌, ap, sym, ◌∙◌}
use Prim.Native.Nat.{ℕ, zero, suc, ◌+◌, ◌-◌, ◌*◌, ◌/◌, ◌%◌, ◌^◌, ◌≤◌, ◌<◌}
use native.Mathlib.Decide.{dec_le}
use native.Mathlib.Nat.{lt_of_lt_of_le, one-mul, pow-suc, div-eq_of_lt, div-lt_iff_lt-mul}
use native.Mathlib.Omega.{arith}
use lib.Arith.{bin_ind}
use lib.Bits.{bit_xor, differ, xor_step, xor_self, xor_shr, xor_block, xor_lt}
use lib.Count.{count_leading_zeros, leading_top, leading_length, leading_unique}
use lib.Pow.{pow_pos, pow_mono, pow-add, high}
use borrow.Author.Tests.{eqb-true, eq-eqb, leb-true, le-leb}
use Rattle.nets.specs.Networks.{width, value, address, net_bits, refusal_of}
use Rattle.nets.specs.declared.Net.{Net}
use Rattle.nets.proofs.Numbers.{refusal_of-is, width-le}
use Rattle.address_order.specs.Streams.{shared}
use Rattle.address_order.proofs.Streams.{shared-number, shared-left, shared-right}

-- The exclusive or is 0 only of a number with itself.
differ-zero : (x y : ℕ) → differ x y ≡ 0 → x ≡ y
differ-zero zero y e = sym e
differ-zero (suc x) zero e = e
differ-zero (suc x) (suc y) e = ap suc (differ-zero x y e)

xor-zero : (a b : ℕ) → bit_xor a b ≡ 0 → a ≡ b
xor-zero = bin_ind (λ (n : ℕ). (b : ℕ) → bit_xor n b ≡ 0 → n ≡ b) (λ b e. sym e) step
  where
    step : (n : ℕ) → ((b : ℕ) → bit_xor (n / 2) b ≡ 0 → n / 2 ≡ b) → (b : ℕ) → bit_xor n b ≡ 0 → n ≡ b
    step n ih b e =
        let s = sym (xor_step n b) ∙ e in
        let high = ih (b / 2) (omega arith) in
        let low = differ-zero (n % 2) (b % 2) (omega arith) in
        omega arith

-- A number of w digits has k leading zeros exactly if it is below 2 ^ (w - k).
module _ (w n k : ℕ) (h : n < 2 ^ w) where
  zeros-below : k ≤ count_leading_zeros w n → n < 2 ^ (w - k)
  zeros-below g = let l = leading_length w n h in lt_of_lt_of_le l.2 (pow_mono {i = l.0} {j = w - k} (omega (arith, l.1)))

  zeros-from : k ≤ w → n < 2 ^ (w - k) → k ≤ count_leading_zeros w n
  zeros-from j g = let l = leading_length w n h in go l.0 l.1 l.3 (dec_le k (count_leading_zeros w n))
    where
      go : (m : ℕ) → count_leading_zeros w n + m ≡ w → 2 ^ m ≤ 2 * n + 1 → Dec (k ≤ count_leading_zeros w n) → k ≤ count_leading_zeros w n
      go m e i (yes y) = y
      go m e i (no y) = let p = pow_mono {i = suc (w - k)} {j = m} (omega arith) in absurd (omega (arith, pow-suc 2 (w - k)))

-- The leading zeros of two words.
pub zeros-low : (hi lo : ℕ) → hi ≡ 0 → lo < 2 ^ 64 → 64 + count_leading_zeros 64 lo ≡ count_leading_zeros 128 (value hi lo)
zeros-low hi lo e h =
    let l = leading_length 64 lo h in
    let v : value hi lo ≡ lo = omega arith in
    rw v (leading_unique 128 lo (64 + count_leading_zeros 64 lo) l.0 (omega (arith, l.1)) l.2 l.3)

pub zeros-high : (hi lo : ℕ) → (hi ≡ 0 → ⊥) → hi < 2 ^ 64 → lo < 2 ^ 64 → count_leading_zeros 64 hi ≡ count_leading_zeros 128 (value hi lo)
zeros-high hi lo n h g =
    let t = leading_top 64 hi (omega arith) h in
    leading_unique 128 (value hi lo) (count_leading_zeros 64 hi) (suc t.0 + 64) (omega (arith, t.1)) (above t.0 t.3) (below t.0 t.2)
  where
    above : (j : ℕ) → hi < 2 ^ suc j → value hi lo < 2 ^ (suc j + 64)
    above j l = rw (pow-add 2 (suc j) 64) ((div-lt_iff_lt-mul {k = 2 ^ 64} {x = value hi lo} {y = 2 ^ suc j} (pow_pos 64)).0 (rw (high hi 64 g) l))

    below : (j : ℕ) → 2 ^ j ≤ hi → 2 ^ (suc j + 64) ≤ 2 * value hi lo + 1
    below j l = rw (pow-add 2 (suc j) 64, pow-suc 2 j) (omega arith)

-- Two networks share the leading bits in which their addresses agree, up to the shorter length. An address is a number of 128 digits, of which the first 128 - width are 0.
module _ (a b : Net) (e : a.family ≡ b.family) (x : refusal_of a ≡ 0) (y : refusal_of b ≡ 0) where
  abbrev apart : ℕ
  apart = bit_xor (address a) (address b)

  apart-lt : apart < 2 ^ width a.family
  apart-lt = xor_lt (width a.family) (address a) (address b) (refusal_of-is a x).address (rw e (refusal_of-is b y).address)

  apart_fits : apart < 2 ^ 128
  apart_fits = lt_of_lt_of_le apart-lt (pow_mono {i = width a.family} {j = 128} (width-le a.family))

  agree-below : (s : ℕ) → address a / 2 ^ s ≡ address b / 2 ^ s → apart < 2 ^ s
  agree-below s i =
      let z : apart / 2 ^ s ≡ 0 = xor_shr (address a) (address b) s ∙ ap (λ n. bit_xor n (address b / 2 ^ s)) i ∙ xor_self (address b / 2 ^ s) in
      rw one-mul at ((div-lt_iff_lt-mul {k = 2 ^ s} {x = apart} {y = 1} (pow_pos s)).0 (rw z (omega arith)))

  below-agree : (s : ℕ) → apart < 2 ^ s → address a / 2 ^ s ≡ address b / 2 ^ s
  below-agree s i = xor-zero (address a / 2 ^ s) (address b / 2 ^ s) (sym (xor_shr (address a) (address b) s) ∙ div-eq_of_lt i)

  place : (k : ℕ) → k ≤ width a.family → 128 - (k + (128 - width a.family)) ≡ width a.family - k
  place k h = omega (arith, width-le a.family)

  agree-shared : (k : ℕ) → k ≤ a.len → k ≤ b.len → k + (128 - width a.family) ≤ count_leading_zeros 128 apart → k ≤ shared (net_bits a) (net_bits b)
  agree-shared k h g i =
      let s = rw (place k (omega (arith, (refusal_of-is a x).len))) at (zeros-below 128 apart (k + (128 - width a.family)) apart_fits i) in
      leb-true k (shared (net_bits a) (net_bits b)) (shared-number a b e x y k h g ∙ eq-eqb _ _ (below-agree (width a.family - k) s))

  shared-agree : shared (net_bits a) (net_bits b) + (128 - width a.family) ≤ count_leading_zeros 128 apart
  shared-agree =
      let k = shared (net_bits a) (net_bits b) in
      let h = shared-left a b e x y in
      let u : k ≤ width a.family = omega (arith, (refusal_of-is a x).len) in
      let s = eqb-true _ _ (sym (shared-number a b e x y k h (shared-right a b e x y)) ∙ le-leb k k (omega arith)) in
      zeros-from 128 apart (k + (128 - width a.family)) apart_fits (omega (arith, width-le a.family)) (rw (place k u) (agree-below (width a.family - k) s))

  -- z is the count of leading zeros, as it is made
  module _ (w : ℕ) (j : w ≡ width a.family) (h : a.lo < 2 ^ 64) (g : b.lo < 2 ^ 64) (z : ℕ) (i : z ≡ count_leading_zeros 128 (value (bit_xor a.hi b.hi) (bit_xor a.lo b.lo))) where
    counted : z ≡ count_leading_zeros 128 apart
    counted = rw (xor_block 64 a.hi b.hi a.lo b.lo h g) i

    pub zeros-family : 128 - w ≤ z
    zeros-family = omega (arith, counted, j, shared-agree)

    pub zeros-shared : (k : ℕ) → k ≤ z - (128 - w) → k ≤ a.len → k ≤ b.len → k ≤ shared (net_bits a) (net_bits b)
    zeros-shared k l m n = agree-shared k m n (omega (arith, counted, j, zeros-family))

    pub shared_zeros : shared (net_bits a) (net_bits b) ≤ z - (128 - w)
    shared_zeros = omega (arith, counted, j, shared-agree)
