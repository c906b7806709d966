-- The network of a path with one bit more behind it. Assumes nothing.
use mathlib.Core.Path.{◌≡◌, refl, sym, ap, ◌∙◌}
use mathlib.Core.Bool.{Bool, true, false}
use mathlib.Core.List.{List, [], ◌∷◌}
use Prim.Native.Nat.{ℕ, suc, ◌+◌, ◌-◌, ◌*◌, ◌/◌, ◌%◌, ◌^◌, ◌≤◌, ◌<◌, max}
use native.Mathlib.Nat.{mul_assoc, suc-add, zero-mul, mul_comm, add-zero, add-mul, pow-suc, mul-mod_left, mod-lt}
use native.Mathlib.Omega.{arith}
use lib.Arith.{digits_lt}
use lib.ListN.{length, length-append}
use lib.Pow.{pow_pos, pow_mono, pow-lt, pow-add, mod-pow-add, shl-shr, split}
use Rattle.nets.specs.Bits.{Bits, digit, val}
use Rattle.nets.specs.Tries.{Trie, levels}
use Rattle.nets.specs.Networks.{width, value, net_words, net_of, net_from}
use Rattle.nets.specs.declared.Net.{Net}
use Rattle.nets.proofs.Order.{val-high}
use Rattle.nets.proofs.Numbers.{width-le}
use Rattle.nets.proofs.TwoWords.{net_of-value}
use Rattle.trie_paths.specs.Spans.{snoc, Holds, Located}
use Rattle.trie_paths.proofs.Reading.{Forked, forked-levels}

pub length-snoc : (p : Bits) (b : Bool) → length (snoc p b) ≡ length p + 1
length-snoc p b = length-append p (b ∷ [])

pub path-is : (n : Net) (f : ℕ) (p : Bits) → n ≡ net_from f p → (n.len ≡ length p) × (n.family ≡ f)
unfolding net_from
path-is n f p e = (ap (λ (x : Net). x.len) e, ap (λ (x : Net). x.family) e)

pub path-root : (f : ℕ) → net_words f 0 0 0 ≡ net_from f []
unfolding net_from
path-root f = rw (zero-mul (2 ^ (width f - 0)))

val-snoc : (p : Bits) (b : Bool) → val (snoc p b) ≡ val p * 2 + digit b
val-snoc [] false = refl
val-snoc [] true = refl
val-snoc (c ∷ p) b = rw (length-snoc p b, val-snoc p b, pow-add 2 (length p) 1) (go (digit c) (2 ^ length p) (val p) (digit b))
  where
    go : (x y v z : ℕ) → x * (y * 2) + (v * 2 + z) ≡ (x * y + v) * 2 + z
    go x y v z = rw (← mul_assoc x y 2) (omega arith)

-- The address of a path with the number v, k + 1 bits from the end, and those of its halves.
twice : (v k : ℕ) → v * 2 * 2 ^ k ≡ v * 2 ^ suc k
twice v k = mul_assoc v 2 (2 ^ k) ∙ ap (λ n. v * n) (mul_comm 2 (2 ^ k) ∙ sym (pow-suc 2 k))

no-carry : (v k : ℕ) → k < 64 → v * 2 ^ suc k % 2 ^ 64 + 2 ^ k < 2 ^ 64
no-carry v k h =
    let j = 63 - k in
    let e : j + suc k ≡ 64 = omega arith in
    let m : v * 2 ^ suc k % 2 ^ (j + suc k) ≡ v % 2 ^ j * 2 ^ suc k =
    mod-pow-add (v * 2 ^ suc k) j (suc k) ∙ rw (shl-shr v (suc k), mul-mod_left v (2 ^ suc k)) (add-zero (v % 2 ^ j * 2 ^ suc k)) in
    let d : v % 2 ^ j * 2 ^ suc k + 2 ^ k < 2 ^ j * 2 ^ suc k = digits_lt (mod-lt v (pow_pos j)) (pow-lt (omega arith)) in
    rw (← m, ← pow-add 2 j (suc k), e) at d

-- n is the network of p in the family f, with k bits behind the next
module _ (n : Net) (f : ℕ) (p : Bits) (k : ℕ) (is : n ≡ net_from f p) (left : suc (n.len + k) ≡ width n.family) where
  left_is : (n.len ≡ length p) × (width f ≡ suc (length p + k))
  left_is = let e = path-is n f p is in omega (arith, e.0, ap width e.1)

  words_are : (n.hi ≡ val p * 2 ^ suc k / 2 ^ 64) × (n.lo ≡ val p * 2 ^ suc k % 2 ^ 64)
  unfolding net_from
  words_are =
      let h : width f - length p ≡ suc k = omega (arith, left_is) in
      (rw h at (ap (λ (x : Net). x.hi) is), rw h at (ap (λ (x : Net). x.lo) is))

  snoc-is : (b : Bool) → net_from f (snoc p b) ≡ net_of n.family (val p * 2 ^ suc k + digit b * 2 ^ k) (n.len + 1)
  unfolding net_from
  snoc-is b =
      let h : width f - (length p + 1) ≡ k = omega (arith, left_is) in
      rw ((path-is n f p is).1, (path-is n f p is).0, length-snoc p b, h, val-snoc p b, add-mul (val p * 2) (digit b) (2 ^ k), twice (val p) k)

  pub first-is : net_words n.family n.hi n.lo (n.len + 1) ≡ net_from f (snoc p false)
  first-is = rw (snoc-is false, zero-mul (2 ^ k), add-zero (val p * 2 ^ suc k), words_are.0, words_are.1)

  -- the words of the second half, where the bit falls into the low one and where it falls into the high one
  pub low_fits : k < 64 → n.lo + 2 ^ k < 2 ^ 64
  low_fits h = rw words_are.1 (no-carry (val p) k h)

  pub second-low : k < 64 → net_words n.family n.hi (n.lo + 2 ^ k) (n.len + 1) ≡ net_from f (snoc p true)
  second-low h =
      let v : val p * 2 ^ suc k + 1 * 2 ^ k ≡ value n.hi (n.lo + 2 ^ k) = omega (arith, words_are, split (val p * 2 ^ suc k) 64) in
      rw (snoc-is true, v) (sym (net_of-value n.family n.hi (n.lo + 2 ^ k) (n.len + 1) (low_fits h)))

  module _ (j : ℕ) (h : k ≡ j + 64) where
    pub high_fits : n.hi + 2 ^ j < 2 ^ 64
    high_fits =
        let q : n.hi ≡ val p * 2 ^ suc j = words_are.0 ∙ rw (h, ← suc-add j 64, pow-add 2 (suc j) 64, ← mul_assoc (val p) (2 ^ suc j) (2 ^ 64)) (shl-shr (val p * 2 ^ suc j) 64) in
        let d : val p * 2 ^ suc j + 2 ^ j < 2 ^ length p * 2 ^ suc j = digits_lt (val-high p) (pow-lt (omega arith)) in
        let s : length p + suc j ≤ 64 = omega (arith, left_is, width-le f) in
        let m : 2 ^ (length p + suc j) ≤ 2 ^ 64 = pow_mono s in
        omega (arith, pow-add 2 (length p) (suc j))

    pub second-high : net_words n.family (n.hi + 2 ^ j) n.lo (n.len + 1) ≡ net_from f (snoc p true)
    second-high =
        let q : 2 ^ k ≡ 2 ^ j * 2 ^ 64 = ap (λ m. 2 ^ m) h ∙ pow-add 2 j 64 in
        let v : val p * 2 ^ suc k + 1 * 2 ^ k ≡ value (n.hi + 2 ^ j) n.lo = omega (arith, words_are, split (val p * 2 ^ suc k) 64) in
        rw (snoc-is true, v) (sym (net_of-value n.family (n.hi + 2 ^ j) n.lo (n.len + 1) (omega (arith, words_are))))

-- A part of a trie with its path: the whole, and the children of a node.
pub located-root : {w : List ℕ} {b i e f : ℕ} {x : Net} {t : Trie} → Holds w b i e f t → x ≡ net_from f [] → Located w b i e x f [] t
located-root o h = record { stands = o.stands; path = h; deep = omega (arith, o.deep) }

module _ {w : List ℕ} {b i e m f : ℕ} {x : Net} {p : Bits} {t : Trie} (o : Located w b i e x f p t) (k : Forked w b i e m t) where
  -- there are bits to come
  pub path-goes-on : x.len < width x.family
  path-goes-on = let q = path-is x f p o.path in omega (arith, q.0, ap width q.1, rw k.is at o.deep, forked-levels k.l k.r k.inner)

  half-deep : (b : Bool) (s : Trie) → levels s ≤ max (levels k.l) (levels k.r) → length (snoc p b) + levels s ≤ suc (width f)
  unfolding levels
  half-deep b s h = omega (arith, length-snoc p b, rw k.is at o.deep)

  pub located-left : {y : Net} → y ≡ net_from f (snoc p false) → Located w b (i + 1) m y f (snoc p false) k.l
  located-left h = record { stands = k.left; path = h; deep = half-deep false k.l (omega arith) }

  pub located-right : {y : Net} → y ≡ net_from f (snoc p true) → Located w b m e y f (snoc p true) k.r
  located-right h = record { stands = k.right; path = h; deep = half-deep true k.r (omega arith) }
