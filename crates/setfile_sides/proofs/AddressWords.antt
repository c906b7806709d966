-- Addresses in two words: their low bits set, and the address behind one. Assumes nothing.
use Rattle.std.proofs.Common.{◌≡◌, ℕ, suc, ◌+◌, ◌-◌, ◌*◌, ◌%◌, ◌^◌, ◌<◌, ◌≤◌, Bool, true, false, ltb, sym, refl, ap, ◌∙◌, mod-eq_of_lt, arith, pow_pos, ltb-false, ltb-true, le-ltb, lt-ltb}
use native.Mathlib.Decide.{dec_lt, ℕ_discrete}
use lib.Arith.{digits_lt}
use lib.Bits.{bit_or, or_add_and, and_mask}
use lib.Pow.{split, ones_split}
use Rattle.nets.specs.Networks.{width, value, address}
use Rattle.nets.specs.declared.Net.{Net}
use Rattle.nets.proofs.Numbers.{width-le}
use Rattle.nets.proofs.TwoWords.{shl_one, keep_all, value-keep}
use Rattle.setfile_entries.proofs.Clean.{value-other, value_same}
use Rattle.setfile_sides.specs.Sides.{kept, ones}

-- one bit, k places to the left
pub bit-some : (k : ℕ) → k < 64 → 1 ≤ 1 * 2 ^ k % 2 ^ 64
bit-some k h = rw (shl_one k h) (pow_pos k)

pub fill-low : (x k : ℕ) → k < 64 → bit_or x (1 * 2 ^ k % 2 ^ 64 - 1) ≡ kept x k + ones k
unfolding kept ones
fill-low x k h = rw (lt-ltb k 64 h, shl_one k h) (omega (arith, or_add_and x (2 ^ k - 1), and_mask x k, split x k))

pub fill-all : (x k : ℕ) → x < 2 ^ 64 → 64 ≤ k → 2 ^ 64 - 1 ≡ kept x k + ones k
unfolding kept ones
fill-all x k h l = rw (keep_all x k h l, le-ltb k 64 l)

-- The low bits of two words.
ones-few : (k : ℕ) → k ≤ 64 → ones k ≡ 2 ^ k - 1
unfolding ones
ones-few k h = go (ltb k 64) refl
  where
    go : (b : Bool) → ltb k 64 ≡ b → ones k ≡ 2 ^ k - 1
    go true e = rw e
    go false e = let z : k ≡ 64 = omega (arith, ltb-false k 64 e) in rw z

value-ones : (k : ℕ) → k ≤ 128 → value (ones (k - 64)) (ones k) ≡ 2 ^ k - 1
unfolding ones
value-ones k h = go (ltb k 64) refl
  where
    go : (b : Bool) → ltb k 64 ≡ b → value (ones (k - 64)) (ones k) ≡ 2 ^ k - 1
    go true e =
        let z : k - 64 ≡ 0 = omega (arith, ltb-true k 64 e) in
        omega (arith, ap ones z, ones-few k (omega (arith, ltb-true k 64 e)))
    go false e =
        let z : (k - 64) + 64 ≡ k = omega (arith, ltb-false k 64 e) in
        let o : ones k ≡ 2 ^ 64 - 1 = rw e in
        rw (ones-few (k - 64) (omega arith), o) (sym (ones_split (k - 64) 64) ∙ ap (λ n. 2 ^ n - 1) z)

value-kept : (hi lo k : ℕ) → lo < 2 ^ 64 → kept (value hi lo) k ≡ value (kept hi (k - 64)) (kept lo k)
unfolding kept
value-kept hi lo k h = value-keep hi lo k h

pub last-words : (hi lo k : ℕ) → lo < 2 ^ 64 → k ≤ 128 → value (kept hi (k - 64) + ones (k - 64)) (kept lo k + ones k) ≡ kept (value hi lo) k + (2 ^ k - 1)
last-words hi lo k h l = omega (arith, value-kept hi lo k h, value-ones k l)

pub last_of : (n : Net) (wd k j a b : ℕ) → n.lo < 2 ^ 64 → wd ≡ width n.family → k ≡ wd - n.len → j ≡ k - 64 → a ≡ kept n.hi j + ones j
    → b ≡ kept n.lo k + ones k
    → value a b ≡ kept (address n) (width n.family - n.len) + (2 ^ (width n.family - n.len) - 1)
last_of n wd k j a b h e f g p q =
    rw (p, q, g, f, e) (last-words n.hi n.lo (width n.family - n.len) h (omega (arith, width-le n.family)))

-- The address behind one: the carry goes into the high word.
module _ (hi lo : ℕ) (h : hi < 2 ^ 64) (l : lo < 2 ^ 64) where
  pub behind-low : (b : ℕ) → b ≡ (lo + 1) % 2 ^ 64 → (b ≡ 0 → ⊥) → value hi b ≡ suc (value hi lo) % 2 ^ 128
  behind-low b f n =
      let k : lo + 1 < 2 ^ 64 = omega arith in
      let e : value hi (lo + 1) ≡ suc (value hi lo) = omega arith in
      rw (f, mod-eq_of_lt k) (rw e (sym (mod-eq_of_lt (rw e at (digits_lt h k)))))

  pub behind-high : (a b : ℕ) → a ≡ (hi + 1) % 2 ^ 64 → b ≡ (lo + 1) % 2 ^ 64 → b ≡ 0 → value a b ≡ suc (value hi lo) % 2 ^ 128
  behind-high a b g f n =
      let e : suc (value hi lo) ≡ (hi + 1) * 2 ^ 64 + 0 = omega arith in
      rw (g, n, e) (go (dec_lt (hi + 1) (2 ^ 64)))
    where
      go : Dec (hi + 1 < 2 ^ 64) → (hi + 1) % 2 ^ 64 * 2 ^ 64 + 0 ≡ ((hi + 1) * 2 ^ 64 + 0) % 2 ^ 128
      go (yes k) = rw (mod-eq_of_lt k) (sym (mod-eq_of_lt (digits_lt k (pow_pos 64))))
      go (no k) = let z : hi + 1 ≡ 2 ^ 64 = omega arith in rw z

-- The order of addresses is that of their words, one after the other.
pub less-words : (hi lo hi' lo' : ℕ) → lo < 2 ^ 64 → lo' < 2 ^ 64 → {r : Bool} → (hi ≡ hi' → r ≡ ltb lo lo') → ((hi ≡ hi' → ⊥) → r ≡ ltb hi hi')
    → r ≡ ltb (value hi lo) (value hi' lo')
less-words hi lo hi' lo' k l {r} low high = go (ℕ_discrete hi hi')
  where
    go : Dec (hi ≡ hi') → r ≡ ltb (value hi lo) (value hi' lo')
    go (yes e) = low e ∙ value_same hi lo hi' lo' k l e
    go (no n) = high n ∙ value-other hi lo hi' lo' k l n
