-- Strings by words: one bit, and one bit more. Assumes nothing.
use mathlib.Core.Path.{◌≡◌, refl, sym, ap, ◌∙◌}
use mathlib.Core.Bool.{Bool, true, false, ◌&&◌, beq as same}
use mathlib.Core.List.{[], ◌∷◌}
use Prim.Native.Nat.{ℕ, suc, ◌+◌, ◌-◌, ◌*◌, ◌/◌, ◌%◌, ◌^◌, ◌≤◌, ◌<◌}
use native.Mathlib.Nat.{pow-suc, mul_assoc, mul-add-div_right}
use native.Mathlib.Omega.{arith}
use lib.Dec.{eqb}
use lib.ListN.{length, get_or}
use lib.Seq.{get_or-take}
use lib.Pow.{pow_pos, pow-add, shr-shr, high}
use Rattle.nets.specs.Bits.{Bits, leads, bits}
use Rattle.nets.specs.Networks.{value, net_bits, net_from, address, width}
use Rattle.nets.specs.declared.Net.{Net}
use Rattle.nets.proofs.Numbers.{refusal_of-is, length-net_bits, bit_at}
use Rattle.address_order.specs.Streams.{shared}
use Rattle.address_order.proofs.Streams.{shared-leads}
use Rattle.trie_paths.specs.Spans.{snoc}
use Rattle.trie_paths.proofs.Paths.{path-is}
use Rattle.kept_reading.specs.NodeStrings.{IsString, Both}

-- a digit of the number of two words stands in the high word or in the low one
digit-high : (h l j : ℕ) → l < 2 ^ 64 → 64 ≤ j → value h l / 2 ^ j ≡ h / 2 ^ (j - 64)
digit-high h l j lt le =
    let e : 64 + (j - 64) ≡ j = omega arith in
    ap (λ n. value h l / 2 ^ n) (sym e) ∙ sym (shr-shr (value h l) 64 (j - 64)) ∙ ap (λ n. n / 2 ^ (j - 64)) (high h 64 lt)

digit_low : (h l j : ℕ) → j < 64 → value h l / 2 ^ j % 2 ≡ l / 2 ^ j % 2
digit_low h l j lt =
    let e : suc (63 - j) + j ≡ 64 = omega arith in
    let p : h * 2 ^ 64 ≡ h * 2 ^ suc (63 - j) * 2 ^ j = ap (λ n. h * 2 ^ n) (sym e) ∙ ap (λ n. h * n) (pow-add 2 (suc (63 - j)) j)
    ∙ sym (mul_assoc h (2 ^ suc (63 - j)) (2 ^ j)) in
    rw (p, mul-add-div_right (pow_pos j) (h * 2 ^ suc (63 - j)) l, pow-suc 2 (63 - j), ← mul_assoc h (2 ^ (63 - j)) 2) (omega arith)

module _ {q : Net} (g : IsString q) (k : ℕ) (lt : k < q.len) where
  pub bit-within : k < width q.family
  bit-within = omega (arith, (refusal_of-is q g.net).len)

  bit_is : get_or (net_bits q) k false ≡ eqb (address q / 2 ^ (width q.family - 1 - k) % 2) 1
  unfolding net_bits
  bit_is = rw (get_or-take q.len (bits (width q.family) (address q)) k false lt) (bit_at k (width q.family) (address q) bit-within)

  pub bit-low : {j : ℕ} → j ≡ width q.family - 1 - k → j < 64 → eqb (q.lo / 2 ^ j % 2) 1 ≡ get_or (net_bits q) k false
  bit-low {j} e l = rw (bit_is, ← e, digit_low q.hi q.lo j l)

  pub bit_high : {j : ℕ} → j ≡ width q.family - 1 - k → 64 ≤ j → eqb (q.hi / 2 ^ (j - 64) % 2) 1 ≡ get_or (net_bits q) k false
  bit_high {j} e l = rw (bit_is, ← e, digit-high q.hi q.lo j g.low l)

-- one string leads another where they share all its bits
pub shared-all : {p : Net} (q : Net) → IsString p → (r : ℕ) → r ≡ shared (net_bits p) (net_bits q) → eqb r p.len ≡ leads (net_bits p) (net_bits q)
shared-all {p} q g r e = rw e (ap (λ n. eqb (shared (net_bits p) (net_bits q)) n) (sym (length-net_bits p g.net)) ∙ sym (shared-leads (net_bits p) (net_bits q)))

-- one bit more
pub snoc-short : (p : Bits) (c : Bool) (s : Bits) → length s ≤ length p → leads (snoc p c) s ≡ false
snoc-short [] c [] le = refl
snoc-short [] c (b ∷ s) le = absurd (omega arith)
snoc-short (b ∷ p) c [] le = refl
snoc-short (b ∷ p) c (d ∷ s) le = rw (snoc-short p c s (omega arith)) (go (same b d))
  where
    go : (x : Bool) → (x && false) ≡ false
    go true = refl
    go false = refl

pub snoc-long : (p : Bits) (c : Bool) (s : Bits) → length p < length s → leads (snoc p c) s ≡ (leads p s && same (get_or s (length p) false) c)
snoc-long [] c [] lt = absurd (omega arith)
snoc-long [] true (true ∷ s) lt = refl
snoc-long [] true (false ∷ s) lt = refl
snoc-long [] false (true ∷ s) lt = refl
snoc-long [] false (false ∷ s) lt = refl
snoc-long (b ∷ p) c [] lt = absurd (omega arith)
snoc-long (b ∷ p) c (d ∷ s) lt = rw (snoc-long p c s (omega arith)) (go (same b d) (leads p s) (same (get_or s (length p) false) c))
  where
    go : (x y z : Bool) → (x && (y && z)) ≡ ((x && y) && z)
    go true y z = refl
    go false y z = refl

-- the same by the tests of the code
module _ {p q : Net} (g : Both p q) (c : Bool) where
  pub extends-short : q.len ≤ p.len → false ≡ leads (snoc (net_bits p) c) (net_bits q)
  extends-short le = sym (snoc-short (net_bits p) c (net_bits q) (omega (arith, length-net_bits p g.first.net, length-net_bits q g.second.net)))

  extends-long : p.len < q.len → leads (snoc (net_bits p) c) (net_bits q) ≡ (leads (net_bits p) (net_bits q) && same (get_or (net_bits q) p.len false) c)
  extends-long lt =
      rw (length-net_bits p g.first.net) at
      (snoc-long (net_bits p) c (net_bits q) (omega (arith, length-net_bits p g.first.net, length-net_bits q g.second.net)))

  pub extends-off : p.len < q.len → leads (net_bits p) (net_bits q) ≡ false → false ≡ leads (snoc (net_bits p) c) (net_bits q)
  extends-off lt e = rw (extends-long lt, e)

  pub extends-bit : (x : Bool) → p.len < q.len → leads (net_bits p) (net_bits q) ≡ true → x ≡ get_or (net_bits q) p.len false
      → same x c ≡ leads (snoc (net_bits p) c) (net_bits q)
  extends-bit x lt e h = rw (extends-long lt, e, h)

-- the network of a string shorter than the width has halves
pub path-short : {n : Net} (f : ℕ) (q : Bits) → n ≡ net_from f q → length q < width f → n.len < width n.family
path-short {n} f q is lt = let g = path-is n f q is in rw g.1 (omega (arith, g.0))
