-- The leading bits that two strings have in common: they are no more than either has, they are all of a string where it leads the other, and k of them are shared where the two
-- addresses agree but for their low bits. Assumes nothing.
use mathlib.Core.Bool.{Bool, true, false, cond, ◌&&◌, beq as same}
use mathlib.Core.List.{[], ◌∷◌}
use mathlib.Core.Path.{◌≡◌, refl, ap, sym, ◌∙◌}
use Prim.Native.Nat.{ℕ, zero, suc, ◌+◌, ◌-◌, ◌/◌, ◌^◌, ◌≤◌, ◌<◌}
use native.Mathlib.Nat.{add-zero, div-one}
use native.Mathlib.Omega.{arith}
use lib.Dec.{eqb, leb, eqb-zero-suc, eqb-suc-suc, leb-zero, leb-suc-zero, leb-suc-suc}
use lib.ListN.{length, take}
use lib.Pow.{shr_lt}
use lib.Seq.{take-take}
use Rattle.nets.specs.Bits.{Bits, leads, bits}
use Rattle.nets.specs.Networks.{width, address, net_bits, refusal_of}
use Rattle.nets.specs.declared.Net.{Net}
use Rattle.nets.proofs.Numbers.{take-bits, leads-number, refusal_of-is, length-net_bits}
use Rattle.address_order.specs.Streams.{shared}

-- A string leads another where it shares all its bits with it.
pub shared-leads : (p q : Bits) → leads p q ≡ eqb (shared p q) (length p)
unfolding shared
shared-leads [] q = refl
shared-leads (b ∷ p) [] = sym (eqb-zero-suc (length p))
shared-leads (b ∷ p) (c ∷ q) = go (same b c) (shared-leads p q)
  where
    go : (x : Bool) → leads p q ≡ eqb (shared p q) (length p) → (x && leads p q) ≡ eqb (cond x (suc (shared p q)) 0) (suc (length p))
    go true ih = ih ∙ sym (eqb-suc-suc (shared p q) (length p))
    go false ih = sym (eqb-zero-suc (length p))

pub shared-le-left : (p q : Bits) → shared p q ≤ length p
unfolding shared
shared-le-left [] q = omega arith
shared-le-left (b ∷ p) [] = omega arith
shared-le-left (b ∷ p) (c ∷ q) = go (same b c) (shared-le-left p q)
  where
    go : (x : Bool) → shared p q ≤ length p → cond x (suc (shared p q)) 0 ≤ suc (length p)
    go true ih = omega arith
    go false ih = omega arith

pub shared-le-right : (p q : Bits) → shared p q ≤ length q
unfolding shared
shared-le-right [] q = omega arith
shared-le-right (b ∷ p) [] = omega arith
shared-le-right (b ∷ p) (c ∷ q) = go (same b c) (shared-le-right p q)
  where
    go : (x : Bool) → shared p q ≤ length q → cond x (suc (shared p q)) 0 ≤ suc (length q)
    go true ih = omega arith
    go false ih = omega arith

shared-take : (k : ℕ) (p q : Bits) → k ≤ length p → k ≤ length q → leb k (shared p q) ≡ leads (take k p) (take k q)
unfolding shared
shared-take zero p q h g = leb-zero (shared p q)
shared-take (suc k) [] q h g = absurd (omega arith)
shared-take (suc k) (b ∷ p) [] h g = absurd (omega arith)
shared-take (suc k) (b ∷ p) (c ∷ q) h g = go (same b c) (shared-take k p q (omega arith) (omega arith))
  where
    go : (x : Bool) → leb k (shared p q) ≡ leads (take k p) (take k q) → leb (suc k) (cond x (suc (shared p q)) 0) ≡ (x && leads (take k p) (take k q))
    go true ih = leb-suc-suc k (shared p q) ∙ ih
    go false ih = leb-suc-zero k

-- The first k bits of a network, by its address.
take-net_bits : (n : Net) (j k : ℕ) → j ≤ n.len → j + k ≡ width n.family → take j (net_bits n) ≡ bits j (address n / 2 ^ k)
unfolding net_bits
take-net_bits n j k h e = take-take j n.len (bits (width n.family) (address n)) h ∙ rw (← e) (take-bits j k (address n))

leads-bits : (k a b : ℕ) → a < 2 ^ k → b < 2 ^ k → leads (bits k a) (bits k b) ≡ eqb a b
leads-bits k a b h g = rw (add-zero k, div-one b) at (leads-number k 0 a b h (rw (add-zero k) g))

module _ (a b : Net) (e : a.family ≡ b.family) (x : refusal_of a ≡ 0) (y : refusal_of b ≡ 0) where
  pub shared-number : (k : ℕ) → k ≤ a.len → k ≤ b.len → leb k (shared (net_bits a) (net_bits b)) ≡ eqb (address a / 2 ^ (width a.family - k)) (address b / 2 ^ (width a.family - k))
  shared-number k h g =
      let i = refusal_of-is a x in
      let j = refusal_of-is b y in
      let s = width a.family - k in
      let v : k + s ≡ width a.family = omega (arith, i.len) in
      let w : k + s ≡ width b.family = v ∙ ap width e in
      shared-take k (net_bits a) (net_bits b) (omega (arith, length-net_bits a x)) (omega (arith, length-net_bits b y))
      ∙ rw (take-net_bits a k s h v, take-net_bits b k s g w) (leads-bits k (address a / 2 ^ s) (address b / 2 ^ s) (shr_lt k s (rw v i.address)) (shr_lt k s (rw w j.address)))

  pub shared-left : shared (net_bits a) (net_bits b) ≤ a.len
  shared-left = omega (arith, shared-le-left (net_bits a) (net_bits b), length-net_bits a x)

  pub shared-right : shared (net_bits a) (net_bits b) ≤ b.len
  shared-right = omega (arith, shared-le-right (net_bits a) (net_bits b), length-net_bits b y)
