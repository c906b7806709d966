-- A bit of an address in two words, hi and lo: the low 64 bits are those of lo. Assumes nothing.
use mathlib.Core.Bool.{Bool, true, false, cond}
use mathlib.Core.Logic.{◌⊎◌, inl, inr, ⊎_elim}
use mathlib.Core.Path.{◌≡◌, refl, ap, sym, ◌∙◌}
use Prim.Native.Nat.{ℕ, ◌+◌, ◌-◌, ◌*◌, ◌/◌, ◌%◌, ◌^◌, ◌≤◌, ◌<◌}
use native.Mathlib.Nat.{mul_assoc, mul-add-div_right}
use native.Mathlib.Omega.{arith}
use native.Mathlib.Decide.{dec_lt}
use lib.Dec.{eqb}
use lib.ListN.{get_or}
use lib.Pow.{pow_pos, pow-add, shl-shr, shr-shr, field, high}
use borrow.Author.Tests.{lt-ltb, le-ltb}
use Rattle.nets.specs.Bits.{bits}
use Rattle.nets.specs.Networks.{width, value, address}
use Rattle.nets.specs.declared.Net.{Net}
use Rattle.nets.proofs.Numbers.{bit_at, width-le}
use Rattle.setfile_build.specs.Building.{word_from}

even-add : (x y : ℕ) → (x * 2 + y) % 2 ≡ y % 2
even-add x y = omega arith

-- where j more bits of the low word follow behind the bit's own and k before it
value_low : (hi lo j k : ℕ) → j + 1 + k ≡ 64 → value hi lo / 2 ^ k % 2 ≡ lo / 2 ^ k % 2
value_low hi lo j k e =
    let p : hi * 2 ^ 64 ≡ hi * 2 ^ j * 2 * 2 ^ k = ap (λ n. hi * 2 ^ n) (sym e) ∙ rw (pow-add 2 (j + 1) k, pow-add 2 j 1) (sym (mul_assoc hi (2 ^ j * 2) (2 ^ k)) ∙ ap (λ n. n * 2 ^ k) (sym (mul_assoc hi (2 ^ j) 2))) in
    rw (p, mul-add-div_right (pow_pos k) (hi * 2 ^ j * 2) lo) (even-add (hi * 2 ^ j) (lo / 2 ^ k))

value-high : (hi lo j : ℕ) → lo < 2 ^ 64 → value hi lo / 2 ^ (64 + j) % 2 ≡ hi / 2 ^ j % 2
value-high hi lo j h = rw (← shr-shr (value hi lo) 64 j, high hi 64 h)

module _ (n : Net) (d k : ℕ) (h : d < width n.family) (e : k ≡ width n.family - 1 - d) where
  at-is : get_or (bits (width n.family) (address n)) d false ≡ eqb (address n / 2 ^ k % 2) 1
  at-is = rw e (bit_at d (width n.family) (address n) h)

  pub bit-low : k < 64 → eqb (n.lo / 2 ^ k % 2) 1 ≡ get_or (bits (width n.family) (address n)) d false
  bit-low l = sym (at-is ∙ rw (value_low n.hi n.lo (63 - k) k (omega arith)))

  pub bit_high : 64 ≤ k → n.lo < 2 ^ 64 → eqb (n.hi / 2 ^ (k - 64) % 2) 1 ≡ get_or (bits (width n.family) (address n)) d false
  bit_high l g = let q : 64 + (k - 64) ≡ k = omega arith in sym (at-is ∙ ap (λ x. eqb x 1) (ap (λ m. address n / 2 ^ m % 2) (sym q) ∙ value-high n.hi n.lo (k - 64) g))

-- The bits from one on to the end of its word: the first of them is the highest, and one place to the left they are those from the next one on, unless a word begins there.
shifted : (x s : ℕ) → s < 64 → x * 2 ^ (63 - s) % 2 ^ 64 / 2 ^ 63 ≡ x / 2 ^ s % 2
shifted x s h =
    let e : 63 - s + s ≡ 63 = omega arith in
    let p : x * 2 ^ (63 - s) / 2 ^ 63 ≡ x / 2 ^ s = ap (λ m. x * 2 ^ (63 - s) / 2 ^ m) (sym e) ∙ sym (shr-shr (x * 2 ^ (63 - s)) (63 - s) s) ∙ ap (λ y. y / 2 ^ s) (shl-shr x (63 - s)) in
    field (x * 2 ^ (63 - s)) 1 63 ∙ ap (λ y. y % 2) p

doubled : (y : ℕ) → y % 2 ^ 64 * 2 % 2 ^ 64 ≡ y * 2 % 2 ^ 64
doubled y = omega arith

next-shift : (x s : ℕ) → x * 2 ^ s % 2 ^ 64 * 2 % 2 ^ 64 ≡ x * 2 ^ (s + 1) % 2 ^ 64
next-shift x s = doubled (x * 2 ^ s) ∙ ap (λ y. y % 2 ^ 64) (mul_assoc x (2 ^ s) 2 ∙ ap (λ y. x * y) (sym (pow-add 2 s 1)))

one_word : (w d : ℕ) → w ≡ 128 → (d ≡ 63 → ⊥) → w - 1 - (d + 1) < 64 → w - 1 - (d + 1) + 1 < 64
one_word w d e u l = omega arith

-- an address ends in its only word, or in its second
two-widths : (f : ℕ) → (width f ≡ 32) ⊎ (width f ≡ 128)
unfolding width
two-widths f = go (eqb f 4)
  where
    go : (b : Bool) → let w : ℕ = cond b 32 128 in (w ≡ 32) ⊎ (w ≡ 128)
    go true = inl refl
    go false = inr refl

module _ (n : Net) (d : ℕ) where
  pub from_low : (k : ℕ) → k ≡ width n.family - 1 - d → k < 64 → n.lo * 2 ^ (63 - k) % 2 ^ 64 ≡ word_from n d
  unfolding word_from
  from_low k e h = rw (← e, lt-ltb k 64 h)

  pub from-high : (k : ℕ) → k ≡ width n.family - 1 - d → 64 ≤ k → n.hi * 2 ^ (127 - k) % 2 ^ 64 ≡ word_from n d
  unfolding word_from
  from-high k e h = rw (← e, le-ltb k 64 h)

  -- the bit of depth d is the first of them
  pub first_bit : d < width n.family → n.lo < 2 ^ 64 → {r : ℕ} → r ≡ word_from n d → eqb (r / 2 ^ 63) 1 ≡ get_or (bits (width n.family) (address n)) d false
  first_bit h l {r} q = go (width n.family - 1 - d) refl
    where
      go : (k : ℕ) → k ≡ width n.family - 1 - d → eqb (r / 2 ^ 63) 1 ≡ get_or (bits (width n.family) (address n)) d false
      go k e = at (dec_lt k 64)
        where
          at : Dec (k < 64) → eqb (r / 2 ^ 63) 1 ≡ get_or (bits (width n.family) (address n)) d false
          at (yes i) = rw (q, ← from_low k e i, shifted n.lo k i) (bit-low n d k h e i)
          at (no i) =
              let j : 127 - k ≡ 63 - (k - 64) = omega (arith, width-le n.family) in
              let g : 64 ≤ k = omega arith in
              rw (q, ← from-high k e g, j, shifted n.hi (k - 64) (omega (arith, width-le n.family))) (bit_high n d k h e g l)

next_low : (n : Net) (d k : ℕ) → k ≡ width n.family - 1 - (d + 1) → d + 1 < width n.family → k + 1 < 64 → {r : ℕ} → r ≡ word_from n d → r * 2 % 2 ^ 64 ≡ word_from n (d + 1)
next_low n d k e h l {r} q =
    let a : r ≡ n.lo * 2 ^ (63 - (k + 1)) % 2 ^ 64 = q ∙ sym (from_low n d (k + 1) (omega arith) l) in
    let s : 63 - (k + 1) + 1 ≡ 63 - k = omega arith in
    rw a (next-shift n.lo (63 - (k + 1)) ∙ ap (λ m. n.lo * 2 ^ m % 2 ^ 64) s ∙ from_low n (d + 1) k e (omega arith))

next-high : (n : Net) (d k : ℕ) → k ≡ width n.family - 1 - (d + 1) → d + 1 < width n.family → 64 ≤ k → {r : ℕ} → r ≡ word_from n d → r * 2 % 2 ^ 64 ≡ word_from n (d + 1)
next-high n d k e h l {r} q =
    let a : r ≡ n.hi * 2 ^ (127 - (k + 1)) % 2 ^ 64 = q ∙ sym (from-high n d (k + 1) (omega arith) (omega arith)) in
    let s : 127 - (k + 1) + 1 ≡ 127 - k = omega (arith, width-le n.family) in
    rw a (next-shift n.hi (127 - (k + 1)) ∙ ap (λ m. n.hi * 2 ^ m % 2 ^ 64) s ∙ from-high n (d + 1) k e l)

module _ (n : Net) (d : ℕ) (h : d + 1 < width n.family) where
  -- the second word
  pub from_second : d ≡ 63 → n.lo < 2 ^ 64 → n.lo ≡ word_from n (d + 1)
  from_second e l =
      let x : n.lo ≡ n.lo * 2 ^ 0 % 2 ^ 64 = omega arith in
      x ∙ from_low n (d + 1) 63 (⊎_elim (λ y. absurd (omega (arith, y))) (λ y. omega (arith, y)) (two-widths n.family)) (omega arith)

  pub from_next : (d ≡ 63 → ⊥) → {r : ℕ} → r ≡ word_from n d → r * 2 % 2 ^ 64 ≡ word_from n (d + 1)
  from_next u {r} q = go (two-widths n.family) (dec_lt (width n.family - 1 - (d + 1)) 64)
    where
      go : (width n.family ≡ 32) ⊎ (width n.family ≡ 128) → Dec (width n.family - 1 - (d + 1) < 64) → r * 2 % 2 ^ 64 ≡ word_from n (d + 1)
      go x (no l) = next-high n d _ refl h (omega arith) q
      go (inl x) (yes l) = next_low n d _ refl h (omega (arith, x)) q
      go (inr x) (yes l) = next_low n d _ refl h (one_word (width n.family) d x u l) q
