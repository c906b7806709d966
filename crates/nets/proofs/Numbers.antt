-- Numbers as bit strings, over the width: `bits w` and `val` are inverse, bit k is one digit, the first bits are a quotient. So a network's bits
-- are those of its address without the low ones, and the bit iterator hands out just these. Assumes nothing.
use mathlib.Core.Bool.{Bool, true, false, cond, ◌||◌}
use mathlib.Core.List.{[], ◌∷◌}
use mathlib.Core.Logic.{⊎_elim}
use mathlib.Core.Path.{◌≡◌, refl, ap, sym, ◌∙◌}
use Prim.Native.Nat.{ℕ, zero, suc, ◌+◌, ◌-◌, ◌*◌, ◌/◌, ◌%◌, ◌^◌, ◌≤◌, ◌<◌}
use native.Mathlib.Nat.{suc-add, add_comm, mod-eq_of_lt}
use native.Mathlib.Numerals.{one-add}
use native.Mathlib.Omega.{arith}
use lib.Dec.{eqb, leb, ltb, eqb-suc-zero}
use lib.ListN.{length, take, get_or}
use lib.Pow.{mod-pow-add, shr-shr, shr_lt, shr_mod, shl-shr, shl_lt, split}
use lib.Seq.{length-take-le, take-take}
use borrow.Author.Tests.{eqb-true, eqb-false, eq-eqb, ne_eqb, leb-true, ltb-true, le-leb, lt-ltb}
use Rattle.nets.specs.Bits.{Bits, leads, equal, digit, val, bits}
use Rattle.nets.specs.Networks.{width, value, net_of, address, net_bits, net_from, in_range, refusal_of, cleared, bits_left, start_of, next_of, handed}
use Rattle.nets.specs.declared.Net.{Net}
use Rattle.nets.specs.declared.PrefixBits.{PrefixBits}
use Rattle.nets.proofs.Strings.{and_left, and_right, or_cases, bool_iff, equal-refl, equal_is}
use Rattle.nets.proofs.Order.{val-high, key_one}

pub length-bits : (w a : ℕ) → length (bits w a) ≡ w
unfolding bits
length-bits zero a = refl
length-bits (suc w) a = ap suc (length-bits w a)

digit-eqb : (n : ℕ) → n < 2 → digit (eqb n 1) ≡ n
digit-eqb n h = go (eqb n 1) refl
  where
    go : (b : Bool) → eqb n 1 ≡ b → digit b ≡ n
    go true e = sym (eqb-true n 1 e)
    go false e = let k : n ≡ 1 → ⊥ = eqb-false n 1 e in omega arith

pub val-bits : (w a : ℕ) → val (bits w a) ≡ a % 2 ^ w
unfolding bits
val-bits zero a = omega arith
val-bits (suc w) a = rw (length-bits w a, digit-eqb (a / 2 ^ w % 2) (omega arith), val-bits w a, ← one-add w) (sym (mod-pow-add a 1 w))

-- A string is known by its length and its number.
pub bits-val : (w : ℕ) (p : Bits) → length p ≡ w → bits w (val p) ≡ p
bits-val w p e = key_one (bits w (val p)) p (rw (length-bits w (val p), val-bits w (val p), ← e) (rw (mod-eq_of_lt (val-high p))))

bits-mod : (w a : ℕ) → bits w (a % 2 ^ w) ≡ bits w a
bits-mod w a = rw (← val-bits w a) (bits-val w (bits w a) (length-bits w a))

pub bit_at : (k w a : ℕ) → k < w → get_or (bits w a) k false ≡ eqb (a / 2 ^ (w - 1 - k) % 2) 1
unfolding bits
bit_at k zero a h = absurd (omega arith)
bit_at zero (suc w) a h = let e : w ≡ suc w - 1 - 0 = omega arith in ap (λ n. eqb (a / 2 ^ n % 2) 1) e
bit_at (suc k) (suc w) a h = let e : w - 1 - k ≡ suc w - 1 - suc k = omega arith in bit_at k w a (omega arith) ∙ ap (λ n. eqb (a / 2 ^ n % 2) 1) e

pub take-bits : (j k a : ℕ) → take j (bits (j + k) a) ≡ bits j (a / 2 ^ k)
unfolding bits
take-bits zero k a = refl
take-bits (suc j) k a = rw (suc-add j k, shr-shr a k j, add_comm k j, take-bits j k a)

leads-take : (p q : Bits) → length p ≤ length q → leads p q ≡ equal p (take (length p) q)
leads-take [] q h = refl
leads-take (b ∷ p) [] h = absurd (omega arith)
leads-take (b ∷ p) (c ∷ q) h = rw (leads-take p q (omega arith))

equal-bits : (w a b : ℕ) → a < 2 ^ w → b < 2 ^ w → equal (bits w a) (bits w b) ≡ eqb a b
equal-bits w a b h g = bool_iff (equal (bits w a) (bits w b)) (eqb a b) there back
  where
    there : equal (bits w a) (bits w b) ≡ true → eqb a b ≡ true
    there e = eq-eqb a b (sym (val-bits w a ∙ mod-eq_of_lt h) ∙ ap val (equal_is (bits w a) (bits w b) e) ∙ val-bits w b ∙ mod-eq_of_lt g)

    back : eqb a b ≡ true → equal (bits w a) (bits w b) ≡ true
    back e = rw (eqb-true a b e) (equal-refl (bits w b))

-- The network of j bits y holds the address a of j + k bits exactly if a, without its k low bits, is y.
pub leads-number : (j k y a : ℕ) → y < 2 ^ j → a < 2 ^ (j + k) → leads (bits j y) (bits (j + k) a) ≡ eqb y (a / 2 ^ k)
leads-number j k y a h g =
    leads-take (bits j y) (bits (j + k) a) (omega (arith, length-bits j y, length-bits (j + k) a))
    ∙ rw (length-bits j y, take-bits j k a) (equal-bits j y (a / 2 ^ k) h (shr_lt j k g))

-- What is not refused.
pub record IsNet (n : Net) : Type 0 where
  pub family : (eqb n.family 4 || eqb n.family 6) ≡ true
  pub len : n.len ≤ width n.family
  pub address : address n < 2 ^ width n.family

passed : (f r : Bool) → ◌≡◌ {A = ℕ} (cond f (cond r 0 7) 6) 0 → (f ≡ true) × (r ≡ true)
passed true true e = (refl, refl)
passed true false e = absurd (omega arith)
passed false r e = absurd (omega arith)

pub refusal_of-is : (n : Net) → refusal_of n ≡ 0 → IsNet n
unfolding refusal_of in_range
refusal_of-is n e =
    let w = width n.family in
    let h = passed (eqb n.family 4 || eqb n.family 6) (in_range n) e in
    record {
      family = h.0;
      len = leb-true n.len w (and_left (leb n.len w) (ltb (address n) (2 ^ w)) h.1);
      address = ltb-true (address n) (2 ^ w) (and_right (leb n.len w) (ltb (address n) (2 ^ w)) h.1);
    }

pub is-refusal_of : (n : Net) → IsNet n → refusal_of n ≡ 0
unfolding refusal_of in_range
is-refusal_of n h = rw (h.family, le-leb n.len (width n.family) h.len, lt-ltb (address n) (2 ^ width n.family) h.address)

-- The bits of a number that was moved to the left.
take-aligned : (j w a : ℕ) → j ≤ w → take j (bits w (a * 2 ^ (w - j))) ≡ bits j a
take-aligned j w a h = let e : j + (w - j) ≡ w = omega arith in rw (e, shl-shr a (w - j)) at (take-bits j (w - j) (a * 2 ^ (w - j)))

pub net_bits-net_from : (f : ℕ) (p : Bits) → length p ≤ width f → net_bits (net_from f p) ≡ p
unfolding net_bits net_from
net_bits-net_from f p h = rw (split (val p * 2 ^ (width f - length p)) 64, take-aligned (length p) (width f) (val p) h) (bits-val (length p) p refl)

pub refusal_of-net_from : (f : ℕ) (p : Bits) → (eqb f 4 || eqb f 6) ≡ true → length p ≤ width f → refusal_of (net_from f p) ≡ 0
unfolding net_from
refusal_of-net_from f p e h =
    let k = width f - length p in
    let g : length p + k ≡ width f = omega arith in
    is-refusal_of (net_of f (val p * 2 ^ k) (length p)) (record { family = e; len = h; address = rw (split (val p * 2 ^ k) 64) (rw g at (shl_lt (length p) k (val-high p))) })

-- Of networks of one family with the same bits clearing makes one.
pub cleared-one : (m n : Net) → m.family ≡ n.family → net_bits m ≡ net_bits n → cleared m ≡ cleared n
unfolding cleared
cleared-one m n f e = cc

pub family-cleared : (n : Net) → (cleared n).family ≡ n.family
unfolding cleared net_from
family-cleared n = refl

-- Where n is a network: its bits are those of the address without the low ones, which clearing takes away.
module _ (n : Net) (e : refusal_of n ≡ 0) where
  pub length-net_bits : length (net_bits n) ≡ n.len
  unfolding net_bits
  length-net_bits = length-take-le n.len (bits (width n.family) (address n)) (rw length-bits (refusal_of-is n e).len)

  net_bits-within : length (net_bits n) ≤ width n.family
  net_bits-within = rw length-net_bits (refusal_of-is n e).len

  pub net_bits-cleared : net_bits (cleared n) ≡ net_bits n
  unfolding cleared
  net_bits-cleared = net_bits-net_from n.family (net_bits n) net_bits-within

  pub refusal_of-cleared : refusal_of (cleared n) ≡ 0
  unfolding cleared
  refusal_of-cleared = refusal_of-net_from n.family (net_bits n) (refusal_of-is n e).family net_bits-within

  pub cleared-cleared : cleared (cleared n) ≡ cleared n
  cleared-cleared = cleared-one (cleared n) n (family-cleared n) net_bits-cleared

  module _ (k : ℕ) (g : n.len + k ≡ width n.family) where
    pub net_bits-number : net_bits n ≡ bits n.len (address n / 2 ^ k)
    unfolding net_bits
    net_bits-number = rw (← g) (take-bits n.len k (address n))

    pub cleared-number : cleared n ≡ net_of n.family (address n / 2 ^ k * 2 ^ k) n.len
    unfolding cleared net_from
    cleared-number =
        let d : width n.family - n.len ≡ k = omega arith in
        let a : address n < 2 ^ (n.len + k) = rw g (refusal_of-is n e).address in
        rw (length-net_bits, d, net_bits-number, val-bits, shr_mod n.len k a)

-- The families and their widths.
pub family-few : (f : ℕ) → (eqb f 4 || eqb f 6) ≡ true → f ≤ 6
family-few f e = ⊎_elim (λ q. omega (arith, eqb-true f 4 q)) (λ q. omega (arith, eqb-true f 6 q)) (or_cases (eqb f 4) (eqb f 6) e)

pub width-4 : (f : ℕ) → f ≡ 4 → width f ≡ 32
unfolding width
width-4 f e = rw (eq-eqb f 4 e)

pub width-6 : (f : ℕ) → (f ≡ 4 → ⊥) → width f ≡ 128
unfolding width
width-6 f e = rw (ne_eqb f 4 e)

pub width-le : (f : ℕ) → width f ≤ 128
unfolding width
width-le f = go (eqb f 4)
  where
    go : (b : Bool) → cond b 32 128 ≤ 128
    go true = omega arith
    go false = omega arith

-- The bit iterator: what its two words hold, and that the bits left are those that it hands out.
bits-words : (a : ℕ) → bits 128 (value (a / 2 ^ 64 % 2 ^ 64) (a % 2 ^ 64)) ≡ bits 128 a
bits-words a = rw (← mod-pow-add a 64 64) (bits-mod 128 a)

take-moved : (k j w a : ℕ) → k ≤ j → j ≤ w → take k (bits w (a * 2 ^ (w - j))) ≡ take k (bits j a)
take-moved k j w a h g = sym (take-take k j (bits w (a * 2 ^ (w - j))) h) ∙ ap (take k) (take-aligned j w a g)

pub start_of-few : (n : Net) → refusal_of n ≡ 0 → (start_of n).len ≤ 128
unfolding start_of
start_of-few n e = omega (arith, (refusal_of-is n e).len, width-le n.family)

pub bits_left-start : (n : Net) → refusal_of n ≡ 0 → bits_left (start_of n) ≡ net_bits n
unfolding bits_left start_of net_bits
bits_left-start n e =
    let w = width n.family in
    rw (bits-words (address n * 2 ^ (128 - w))) (take-moved n.len w 128 (address n) (refusal_of-is n e).len (width-le n.family))

take-suc-bits : (k w a : ℕ) → take (suc k) (bits (suc w) a) ≡ eqb (a / 2 ^ w % 2) 1 ∷ take k (bits w a)
unfolding bits
take-suc-bits k w a = refl

pub bits_left-next : (s : PrefixBits) → s.len ≤ 128 → bits_left s ≡ handed (next_of s)
unfolding bits_left next_of
bits_left-next s h = go s.len refl
  where
    go : (k : ℕ) → s.len ≡ k → bits_left s ≡ handed (next_of s)
    go zero e = rw e
    go (suc k) e =
        let v = value s.hi s.lo in
        let g : suc k - 1 ≡ k = omega arith in
        rw (e, eqb-suc-zero k, take-suc-bits k 127 v, bits-words (v * 2), g, take-moved k 127 128 v (omega arith) (omega arith))
