-- A number v in two words, hi and lo: what clearing its low bits, moving it to the left and taking its first bit make of the words.
-- `omega` stops at numbers as long as 2^128, so a word is split off by the laws of lib.Pow. Assumes nothing.
use mathlib.Core.Bool.{Bool, true, false, ◌&&◌, and-true, true≢false}
use mathlib.Core.Logic.{◌↔◌}
use mathlib.Core.Path.{◌≡◌, refl, ap, sym, ◌∙◌}
use Prim.Native.Nat.{ℕ, zero, suc, ◌+◌, ◌-◌, ◌*◌, ◌/◌, ◌%◌, ◌^◌, ◌≤◌, ◌<◌}
use native.Mathlib.Nat.{add_comm, add-zero, add-mul, mul-one, one-mul, zero-mul, mul_assoc, mul-add-div_right, mul-mod_left}
use native.Mathlib.Nat.{lt_of_le_of_lt, lt_of_lt_of_le, div-eq_of_lt, div-mul-le_self, mod-eq_of_lt}
use native.Mathlib.Omega.{arith}
use lib.Dec.{eqb, leb, ltb, eqb-suc-zero}
use lib.Arith.{digits_lt}
use lib.Bits.{bit_or, or_shifted}
use lib.Pow.{pow_pos, pow_mono, pow-add, shl_exact, shl-shr, shr-shr, split, high, low, mod-pow-add}
use borrow.Author.Tests.{not-false, eqb-true, eq-eqb, ne_eqb, ltb-true, ltb-false, le-ltb, lt-ltb}
use Rattle.nets.specs.Networks.{width, value, net_words, net_of, address, bits_words, in_range, refusal_of, cleared, has_bit_past, start_of, next_as, next_of}
use Rattle.nets.specs.declared.Net.{Net}
use Rattle.nets.specs.declared.PrefixBits.{PrefixBits}
use Rattle.nets.proofs.Strings.{and_left, and_right, bool_iff}
use Rattle.nets.proofs.Numbers.{refusal_of-is, refusal_of-cleared, cleared-cleared, cleared-number}
use Rattle.std.specs.Prelude.{Some}

pub net_of-value : (f hi lo n : ℕ) → lo < 2 ^ 64 → net_of f (value hi lo) n ≡ net_words f hi lo n
net_of-value f hi lo n h = rw (high hi 64 h, low hi 64 h)

-- One bit, k places to the left.
pub shl_one : (k : ℕ) → k < 64 → 1 * 2 ^ k % 2 ^ 64 ≡ 2 ^ k
shl_one k h = shl_exact 1 k 64 (omega arith) (omega arith) ∙ one-mul (2 ^ k)

-- Clearing k low bits: k of the low word, and k - 64 of the high one.
abbrev keep : ℕ → ℕ → ℕ
keep x k = x / 2 ^ k * 2 ^ k

value-keep-few : (hi lo k : ℕ) → k < 64 → keep (value hi lo) k ≡ value hi (keep lo k)
value-keep-few hi lo k h =
    let e : (64 - k) + k ≡ 64 = omega arith in
    let q = pow-add 2 (64 - k) k in
    let p : hi * 2 ^ 64 ≡ hi * 2 ^ (64 - k) * 2 ^ k = ap (λ n. hi * 2 ^ n) (sym e) ∙ ap (λ n. hi * n) q ∙ sym (mul_assoc hi (2 ^ (64 - k)) (2 ^ k)) in
    rw (p, mul-add-div_right (pow_pos k) (hi * 2 ^ (64 - k)) lo) (add-mul (hi * 2 ^ (64 - k)) (lo / 2 ^ k) (2 ^ k))

value-keep-more : (hi lo j : ℕ) → lo < 2 ^ 64 → keep (value hi lo) (64 + j) ≡ value (keep hi j) 0
value-keep-more hi lo j h =
    rw (← shr-shr (value hi lo) 64 j, high hi 64 h, add_comm 64 j, pow-add 2 j 64)
    (sym (mul_assoc (hi / 2 ^ j) (2 ^ j) (2 ^ 64)) ∙ sym (add-zero (keep hi j * 2 ^ 64)))

-- 64 bits and more are the whole word.
pub keep_all : (x k : ℕ) → x < 2 ^ 64 → 64 ≤ k → keep x k ≡ 0
keep_all x k h l = rw (div-eq_of_lt (lt_of_lt_of_le h (pow_mono l)), zero-mul)

pub value-keep : (hi lo k : ℕ) → lo < 2 ^ 64 → keep (value hi lo) k ≡ value (keep hi (k - 64)) (keep lo k)
value-keep hi lo k h = go (ltb k 64) refl
  where
    go : (t : Bool) → ltb k 64 ≡ t → keep (value hi lo) k ≡ value (keep hi (k - 64)) (keep lo k)
    go true e =
        let l : k < 64 = ltb-true k 64 e in
        let z : k - 64 ≡ 0 = omega arith in
        let o : keep hi 0 ≡ hi = omega arith in
        rw (z, o) (value-keep-few hi lo k l)
    go false e =
        let l : 64 ≤ k = ltb-false k 64 e in
        let p : 64 + (k - 64) ≡ k = omega arith in
        rw (keep_all lo k h l) (rw p at (value-keep-more hi lo (k - 64) h))

keep_low : (x k : ℕ) → x < 2 ^ 64 → keep x k < 2 ^ 64
keep_low x k h = lt_of_le_of_lt (div-mul-le_self x (2 ^ k)) h

pub cleared-words : (n : Net) (k : ℕ) → refusal_of n ≡ 0 → n.len + k ≡ width n.family → n.lo < 2 ^ 64
    → net_words n.family (keep n.hi (k - 64)) (keep n.lo k) n.len ≡ cleared n
cleared-words n k e g h =
    rw (cleared-number n e k g, value-keep n.hi n.lo k h)
    (sym (net_of-value n.family (keep n.hi (k - 64)) (keep n.lo k) n.len (keep_low n.lo k h)))

-- And backwards: no bit is set among the k low ones exactly where clearing them leaves each word as it is.
keep_same : (x k : ℕ) → x % 2 ^ k ≡ 0 → keep x k ≡ x
keep_same x k e = omega (arith, split x k)

same-keep : (x k : ℕ) → keep x k ≡ x → x % 2 ^ k ≡ 0
same-keep x k e = omega (arith, split x k)

pub value-past : (hi lo k : ℕ) → lo < 2 ^ 64 → eqb (value hi lo % 2 ^ k) 0 ≡ (eqb (keep hi (k - 64)) hi && eqb (keep lo k) lo)
value-past hi lo k h = bool_iff (eqb (value hi lo % 2 ^ k) 0) (eqb (keep hi (k - 64)) hi && eqb (keep lo k) lo) there back
  where
    there : eqb (value hi lo % 2 ^ k) 0 ≡ true → (eqb (keep hi (k - 64)) hi && eqb (keep lo k) lo) ≡ true
    there e =
        let q = eqb-true (value hi lo % 2 ^ k) 0 e in
        let p : value (keep hi (k - 64)) (keep lo k) ≡ value hi lo = sym (value-keep hi lo k h) ∙ keep_same (value hi lo) k q in
        let l = keep_low lo k h in
        let x = sym (high (keep hi (k - 64)) 64 l) ∙ ap (λ v. v / 2 ^ 64) p ∙ high hi 64 h in
        let y = sym (low (keep hi (k - 64)) 64 l) ∙ ap (λ v. v % 2 ^ 64) p ∙ low hi 64 h in
        rw (eq-eqb (keep hi (k - 64)) hi x, eq-eqb (keep lo k) lo y)

    back : (eqb (keep hi (k - 64)) hi && eqb (keep lo k) lo) ≡ true → eqb (value hi lo % 2 ^ k) 0 ≡ true
    back e =
        let x = eqb-true (keep hi (k - 64)) hi (and_left (eqb (keep hi (k - 64)) hi) (eqb (keep lo k) lo) e) in
        let y = eqb-true (keep lo k) lo (and_right (eqb (keep hi (k - 64)) hi) (eqb (keep lo k) lo) e) in
        eq-eqb (value hi lo % 2 ^ k) 0 (same-keep (value hi lo) k (value-keep hi lo k h ∙ rw (x, y)))

-- So clearing leaves a network as it is exactly where no bit past its length is set: what is reported is whether clearing changes the network.
module _ (n : Net) (e : refusal_of n ≡ 0) where
  abbrev past : ℕ
  past = width n.family - n.len

  all : n.len + past ≡ width n.family
  all = omega (arith, (refusal_of-is n e).len)

  pub cleared-same : n.lo < 2 ^ 64 → has_bit_past n ≡ false → cleared n ≡ n
  unfolding has_bit_past
  cleared-same h z =
      let q = eqb-true (address n % 2 ^ past) 0 (not-false _ z) in
      rw (cleared-number n e past all, keep_same (address n) past q) (net_of-value n.family n.hi n.lo n.len h)

  pub same-cleared : cleared n ≡ n → has_bit_past n ≡ false
  unfolding has_bit_past
  same-cleared p = rw (eq-eqb (address n % 2 ^ past) 0 (same-keep (address n) past (sym (split (keep (address n) past) 64) ∙ ap address (sym (cleared-number n e past all) ∙ p))))

-- for any network, so for the cleared one
module _ (n : Net) (e : refusal_of n ≡ 0) where
  pub has_bit_past-differs : n.lo < 2 ^ 64 → (has_bit_past n ≡ true) ↔ (cleared n ≡ n → ⊥)
  has_bit_past-differs h = (λ t p. true≢false (sym t ∙ same-cleared n e p), λ ne. go (has_bit_past n) refl ne)
    where
      go : (b : Bool) → has_bit_past n ≡ b → (cleared n ≡ n → ⊥) → has_bit_past n ≡ true
      go true q ne = q
      go false q ne = absurd (ne (cleared-same n e h q))

  pub has_bit_past-cleared : has_bit_past (cleared n) ≡ false
  has_bit_past-cleared = same-cleared (cleared n) (refusal_of-cleared n e) (cleared-cleared n e)

-- The range of each family, by words.
pub in_range-4 : (n : Net) → n.family ≡ 4 → in_range n ≡ (leb n.len 32 && (eqb n.hi 0 && ltb n.lo (2 ^ 32)))
unfolding in_range width
in_range-4 n e = rw e (ap (λ b. leb n.len 32 && b) (go n.hi))
  where
    go : (hi : ℕ) → ltb (value hi n.lo) (2 ^ 32) ≡ (eqb hi 0 && ltb n.lo (2 ^ 32))
    go zero = let h : value 0 n.lo ≡ n.lo = omega arith in rw h
    go (suc hi) = rw (eqb-suc-zero hi) (le-ltb (value (suc hi) n.lo) (2 ^ 32) (omega arith))

pub in_range-6 : (n : Net) → (n.family ≡ 4 → ⊥) → n.hi < 2 ^ 64 → n.lo < 2 ^ 64 → in_range n ≡ leb n.len 128
unfolding in_range width
in_range-6 n e h g = rw (ne_eqb n.family 4 e, lt-ltb (value n.hi n.lo) (2 ^ 128) (digits_lt h g)) (and-true (leb n.len 128))

-- The iterator's words at its start: an IPv4 address is moved to the upper half of the high word.
value-up : (hi lo : ℕ) → value hi lo * 2 ^ 96 / 2 ^ 64 % 2 ^ 64 ≡ lo * 2 ^ 32 % 2 ^ 64
value-up hi lo = rw (← mul_assoc (value hi lo) (2 ^ 32) (2 ^ 64), shl-shr (value hi lo * 2 ^ 32) 64) (omega arith)

value-empty : (hi lo : ℕ) → value hi lo * 2 ^ 96 % 2 ^ 64 ≡ 0
value-empty hi lo = rw (← mul_assoc (value hi lo) (2 ^ 32) (2 ^ 64)) (mul-mod_left (value hi lo * 2 ^ 32) (2 ^ 64))

pub start_of-4 : (n : Net) → n.family ≡ 4 → bits_words (n.lo * 2 ^ 32 % 2 ^ 64) 0 n.len ≡ start_of n
unfolding start_of width
start_of-4 n e = rw (e, value-up n.hi n.lo, value-empty n.hi n.lo)

pub start_of-6 : (n : Net) → (n.family ≡ 4 → ⊥) → n.hi < 2 ^ 64 → n.lo < 2 ^ 64 → bits_words n.hi n.lo n.len ≡ start_of n
unfolding start_of width
start_of-6 n e h g = rw (ne_eqb n.family 4 e, mul-one (value n.hi n.lo), high n.hi 64 g, low n.hi 64 g, mod-eq_of_lt h)

-- The first bit, and the words one place to the left.
value-top : (hi lo : ℕ) → hi < 2 ^ 64 → lo < 2 ^ 64 → value hi lo / 2 ^ 127 % 2 ≡ hi / 2 ^ 63
value-top hi lo h g = rw (← shr-shr (value hi lo) 64 63, high hi 64 g) (omega arith)

twice-high : (hi lo : ℕ) → value hi lo * 2 / 2 ^ 64 ≡ hi * 2 + lo / 2 ^ 63
twice-high hi lo = omega arith

twice-carry : (hi c : ℕ) → c < 2 → (hi * 2 + c) % 2 ^ 64 ≡ bit_or (hi * 2 % 2 ^ 64) c
twice-carry hi c h =
    let e : hi * 2 % 2 ^ 64 ≡ hi % 2 ^ 63 * 2 = omega arith in
    rw (mod-pow-add (hi * 2 + c) 63 1, high hi 1 h, low hi 1 h, e) (sym (or_shifted (hi % 2 ^ 63) 1 c h))

twice-low : (hi lo : ℕ) → value hi lo * 2 % 2 ^ 64 ≡ lo * 2 % 2 ^ 64
twice-low hi lo = omega arith

pub next_of-bit : (s : PrefixBits) → (s.len ≡ 0 → ⊥) → s.hi < 2 ^ 64 → s.lo < 2 ^ 64
    → next_as (Some ((eqb (s.hi / 2 ^ 63) 1), (bits_words (bit_or (s.hi * 2 % 2 ^ 64) (s.lo / 2 ^ 63)) (s.lo * 2 % 2 ^ 64) (s.len - 1)))) ≡ next_of s
unfolding next_of
next_of-bit s e h g = rw (ne_eqb s.len 0 e, value-top s.hi s.lo h g, twice-high s.hi s.lo, twice-carry s.hi (s.lo / 2 ^ 63) (omega arith), twice-low s.hi s.lo)
