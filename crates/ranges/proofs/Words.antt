-- Addresses as words: one more, with the carry into the high word, and the last address of a network, whose bits past the length are set. Assumes nothing.
use Rattle.std.proofs.Common.{◌≡◌, ℕ, ◌+◌, ◌-◌, ◌*◌, ◌/◌, ◌%◌, ◌^◌, ◌<◌, ◌≤◌, cond, eqb, length, sym, ap, ◌∙◌, ap₂, add-zero, mod-lt, mod-eq_of_lt, mul_assoc, arith, pow_pos, pow_mono, pow-add, eq-eqb, ne_eqb}
use native.Mathlib.Decide.{dec_lt}
use native.Mathlib.Nat.{mul-mod_left}
use lib.Arith.{digits_lt}
use lib.Pow.{ones_lt, ones_split, mod-pow-add, shl-shr, split, high, low, field, mod-mod-pow}
use Rattle.nets.specs.Bits.{Bits, val}
use Rattle.nets.specs.Networks.{width, value, net_from}
use Rattle.nets.specs.declared.Net.{Net}
use Rattle.nets.proofs.Order.{val-high}
use Rattle.nets.proofs.Numbers.{width-4, width-6, width-le}
use Rattle.ranges.specs.declared.addresses.Address.{Address}
use Rattle.ranges.specs.Ranges.{block_of}
use Rattle.ranges.specs.Addresses.{words_of, after_of}

abbrev address : ℕ → ℕ → Address
address h l = record { hi = h; lo = l }

pub address-one : (h l i m : ℕ) → h ≡ i → l ≡ m → address h l ≡ address i m
address-one h l i m e f = ap₂ address e f

-- two words are the words of their number
pub words-value : (h l : ℕ) → l < 2 ^ 64 → address h l ≡ words_of (value h l)
words-value h l k = address-one h l (value h l / 2 ^ 64) (value h l % 2 ^ 64) (sym (high h 64 k)) (sym (low h 64 k))

-- One more.
pub after-4 : (f h l m : ℕ) → f ≡ 4 → m ≡ (l + 1) % 2 ^ 64 → address 0 (m % 0x100000000) ≡ words_of (after_of f (value h l))
unfolding after_of
after-4 f h l m e k =
    rw (width-4 f e) (address-one 0 (m % 0x100000000) ((value h l + 1) % 2 ^ 32 / 2 ^ 64) ((value h l + 1) % 2 ^ 32 % 2 ^ 64) (omega arith) (omega arith))

wide : (x h l : ℕ) → x / 2 ^ 64 % 2 ^ 64 ≡ h → x % 2 ^ 64 ≡ l → address h l ≡ words_of (x % 2 ^ 128)
wide x h l e g = address-one h l (x % 2 ^ 128 / 2 ^ 64) (x % 2 ^ 128 % 2 ^ 64) (sym (field x 64 64 ∙ e)) (sym (mod-mod-pow x 64 64 ∙ g))

pub after-6 : (f h l m c n : ℕ) → (f ≡ 4 → ⊥) → h < 2 ^ 64 → l < 2 ^ 64 → m ≡ (l + 1) % 2 ^ 64 → c ≡ cond (eqb m 0) 1 0 → n ≡ (h + c) % 2 ^ 64
    → address n m ≡ words_of (after_of f (value h l))
unfolding after_of
after-6 f h l m c n e a b k t v = rw (width-6 f e) (go (dec_lt (l + 1) (2 ^ 64)))
  where
    go : Dec (l + 1 < 2 ^ 64) → address n m ≡ words_of ((value h l + 1) % 2 ^ 128)
    go (yes q) =
        let x : value h l + 1 ≡ value h (l + 1) = omega arith in
        let z : m ≡ l + 1 = k ∙ mod-eq_of_lt q in
        let y : n ≡ h = v ∙ rw (t, ne_eqb m 0 (omega arith), add-zero h) (mod-eq_of_lt a) in
        rw x (wide (value h (l + 1)) n m (rw (high h 64 q, y) (mod-eq_of_lt a)) (low h 64 q ∙ sym z))
    go (no q) =
        let x : value h l + 1 ≡ value (h + 1) 0 = omega arith in
        let o : 0 < 2 ^ 64 = omega arith in
        let z : m ≡ 0 = omega arith in
        let y : n ≡ (h + 1) % 2 ^ 64 = v ∙ rw (t, eq-eqb m 0 z) in
        rw x (wide (value (h + 1) 0) n m (rw (high (h + 1) 64 o, y)) (low (h + 1) 64 o ∙ sym z))

-- The last address of the network with the number v, k bits from the end.
low_ones : (v k : ℕ) → k ≤ 64 → v * 2 ^ k % 2 ^ 64 + (2 ^ k - 1) < 2 ^ 64
low_ones v k h =
    let j = 64 - k in
    let e : j + k ≡ 64 = omega arith in
    let m : v * 2 ^ k % 2 ^ (j + k) ≡ v % 2 ^ j * 2 ^ k =
    mod-pow-add (v * 2 ^ k) j k ∙ rw (shl-shr v k, mul-mod_left v (2 ^ k)) (add-zero (v % 2 ^ j * 2 ^ k)) in
    let d : v % 2 ^ j * 2 ^ k + (2 ^ k - 1) < 2 ^ j * 2 ^ k = digits_lt (mod-lt v (pow_pos j)) (ones_lt k) in
    rw (← m, ← pow-add 2 j k, e) at d

module _ (n : Net) (f : ℕ) (p : Bits) (is : n ≡ net_from f p) (fits : length p ≤ width f) where
  abbrev behind : ℕ
  behind = width f - length p

  pub net-is : (n.len ≡ length p) × (n.family ≡ f)
  unfolding net_from
  net-is = (ap (λ (x : Net). x.len) is, ap (λ (x : Net). x.family) is)

  pub net-behind : width n.family - n.len ≡ behind
  net-behind = rw (net-is.0, net-is.1)

  words_are : (n.hi ≡ val p * 2 ^ behind / 2 ^ 64) × (n.lo ≡ val p * 2 ^ behind % 2 ^ 64)
  unfolding net_from
  words_are = (ap (λ (x : Net). x.hi) is, ap (λ (x : Net). x.lo) is)

  pub last_fits : behind ≤ 64 → n.lo + (2 ^ behind - 1) < 2 ^ 64
  last_fits h = rw words_are.1 (low_ones (val p) behind h)

  pub last-low : behind ≤ 64 → address n.hi (n.lo + (2 ^ behind - 1)) ≡ words_of (block_of (width f) p).last
  unfolding block_of
  last-low h =
      let v : value n.hi (n.lo + (2 ^ behind - 1)) ≡ val p * 2 ^ behind + (2 ^ behind - 1) = omega (arith, words_are, split (val p * 2 ^ behind) 64) in
      words-value n.hi (n.lo + (2 ^ behind - 1)) (last_fits h) ∙ ap words_of v

  module _ (j : ℕ) (h : behind ≡ j + 64) where
    high_is : n.hi ≡ val p * 2 ^ j
    high_is = words_are.0 ∙ rw (h, pow-add 2 j 64, ← mul_assoc (val p) (2 ^ j) (2 ^ 64)) (shl-shr (val p * 2 ^ j) 64)

    pub last-high-fits : n.hi + (2 ^ j - 1) < 2 ^ 64
    last-high-fits =
        let d : val p * 2 ^ j + (2 ^ j - 1) < 2 ^ length p * 2 ^ j = digits_lt (val-high p) (ones_lt j) in
        let s : length p + j ≤ 64 = omega (arith, width-le f) in
        let m : 2 ^ (length p + j) ≤ 2 ^ 64 = pow_mono s in
        omega (arith, high_is, pow-add 2 (length p) j)

    pub last-high : address (n.hi + (2 ^ j - 1)) (2 ^ 64 - 1) ≡ words_of (block_of (width f) p).last
    unfolding block_of
    last-high =
        let q : 2 ^ behind - 1 ≡ (2 ^ j - 1) * 2 ^ 64 + (2 ^ 64 - 1) = ap (λ m. 2 ^ m - 1) h ∙ ones_split j 64 in
        let u : val p * 2 ^ behind ≡ val p * 2 ^ j * 2 ^ 64 = rw (h, pow-add 2 j 64) (sym (mul_assoc (val p) (2 ^ j) (2 ^ 64))) in
        let v : value (n.hi + (2 ^ j - 1)) (2 ^ 64 - 1) ≡ val p * 2 ^ behind + (2 ^ behind - 1) = omega (arith, high_is) in
        words-value (n.hi + (2 ^ j - 1)) (2 ^ 64 - 1) (omega arith) ∙ ap words_of v
