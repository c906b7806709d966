-- Clean networks by their numbers: the order of addresses is that of the words, then of the lengths. Assumes nothing.
use mathlib.Core.Bool.{Bool, true, false, ◌&&◌, ◌||◌, or-false}
use mathlib.Core.Path.{◌≡◌, ap, sym, ◌∙◌}
use Prim.Native.Nat.{ℕ, ◌-◌, ◌/◌, ◌^◌, ◌≤◌, ◌<◌}
use native.Mathlib.Decide.{ℕ_discrete}
use native.Mathlib.Omega.{arith}
use lib.Dec.{eqb, ltb}
use lib.ListN.{length}
use lib.Pow.{split, high}
use borrow.Author.Tests.{eq-eqb, ne_eqb, le-ltb}
use Rattle.std.specs.Prelude.{Option, Some, None}
use Rattle.nets.specs.Bits.{Bits, leads}
use Rattle.nets.specs.Networks.{is_family, width, value, address, net_bits, net_from, refusal_of}
use Rattle.nets.specs.declared.Net.{Net}
use Rattle.nets.proofs.Numbers.{refusal_of-net_from, net_bits-net_from}
use Rattle.setfile_entries.proofs.Clean.{value-other, value_same}
use Rattle.address_order.specs.Streams.{earlier, shared}
use Rattle.address_order.proofs.AddressOrder.{number, earlier-number}
use Rattle.address_order.proofs.Shared.{shared-leads}
use Rattle.salvage_lists.specs.Ahead.{ahead, is_past, is_beyond}
use Rattle.salvage_batch.specs.Buffers.{Clean, Ended, place_of}

pub clean-net_from : (f : ℕ) (p : Bits) → is_family f ≡ true → length p ≤ width f → Clean f (net_from f p)
clean-net_from f p e h = let b = net_bits-net_from f p h in record { family = e; is = ap (net_from f) (sym b); short = rw b h }

module _ {f : ℕ} {x : Net} (c : Clean f x) where
  pub clean-family : x.family ≡ f
  unfolding net_from
  clean-family = ap (λ (n : Net). n.family) c.is

  pub clean-len : x.len ≡ length (net_bits x)
  unfolding net_from
  clean-len = ap (λ (n : Net). n.len) c.is

  pub clean-address : address x ≡ number (width f) (net_bits x)
  unfolding net_from
  clean-address = ap address c.is ∙ split (number (width f) (net_bits x)) 64

  pub clean-refusal : refusal_of x ≡ 0
  clean-refusal = ap refusal_of c.is ∙ refusal_of-net_from f (net_bits x) c.family c.short

module _ {f : ℕ} {x y : Net} (c : Clean f x) (d : Clean f y) where
  pub clean-families : x.family ≡ y.family
  clean-families = clean-family c ∙ sym (clean-family d)

  by-numbers : earlier (net_bits x) (net_bits y) ≡ (ltb (address x) (address y) || (eqb (address x) (address y) && ltb x.len y.len))
  by-numbers = go (earlier-number (width f) (net_bits x) (net_bits y) c.short d.short) (clean-address c) (clean-address d) (clean-len c) (clean-len d)
    where
      go : {r : Bool} {a b m n a' b' m' n' : ℕ} → r ≡ (ltb a b || (eqb a b && ltb m n)) → a' ≡ a → b' ≡ b → m' ≡ m → n' ≡ n → r ≡ (ltb a' b' || (eqb a' b' && ltb m' n'))
      go e p q u v = cc

  pub earlier-other : (address x ≡ address y → ⊥) → ltb (address x) (address y) ≡ earlier (net_bits x) (net_bits y)
  earlier-other n = sym (by-numbers ∙ rw (ne_eqb (address x) (address y) n) (or-false (ltb (address x) (address y))))

  pub earlier-same : address x ≡ address y → ltb x.len y.len ≡ earlier (net_bits x) (net_bits y)
  earlier-same e = sym (by-numbers ∙ rw (eq-eqb (address x) (address y) e, le-ltb (address x) (address y) (omega arith)))

  pub leads-shared : {r : ℕ} → r ≡ shared (net_bits x) (net_bits y) → eqb r x.len ≡ leads (net_bits x) (net_bits y)
  leads-shared {r} e = go e (clean-len c) (shared-leads (net_bits x) (net_bits y))
    where
      go : {s m n : ℕ} {b : Bool} → r ≡ s → m ≡ n → b ≡ eqb s n → eqb r m ≡ b
      go p q u = cc

pub value-high : (hi lo hi' lo' : ℕ) → lo < 2 ^ 64 → lo' < 2 ^ 64 → value hi lo ≡ value hi' lo' → hi ≡ hi'
value-high hi lo hi' lo' g h e = sym (high hi 64 g) ∙ ap (λ n. n / 2 ^ 64) e ∙ high hi' 64 h

-- The order of the words, one after another.
module _ {f : ℕ} {x y : Net} (c : Clean f x) (d : Clean f y) (k : x.lo < 2 ^ 64) (l : y.lo < 2 ^ 64) where
  pub earlier-words : {r : Bool} → (x.hi ≡ y.hi → x.lo ≡ y.lo → r ≡ ltb x.len y.len) → (x.hi ≡ y.hi → (x.lo ≡ y.lo → ⊥) → r ≡ ltb x.lo y.lo) → ((x.hi ≡ y.hi → ⊥) → r ≡ ltb x.hi y.hi)
      → r ≡ earlier (net_bits x) (net_bits y)
  earlier-words {r} short low high = go (ℕ_discrete x.hi y.hi) (ℕ_discrete x.lo y.lo)
    where
      go : Dec (x.hi ≡ y.hi) → Dec (x.lo ≡ y.lo) → r ≡ earlier (net_bits x) (net_bits y)
      go (yes e) (yes g) = short e g ∙ earlier-same c d (rw (e, g))
      go (yes e) (no n) = low e n ∙ value_same x.hi x.lo y.hi y.lo k l e ∙ earlier-other c d (λ q. n (omega (arith, q)))
      go (no n) g = high n ∙ value-other x.hi x.lo y.hi y.lo k l n ∙ earlier-other c d (λ q. n (value-high x.hi x.lo y.hi y.lo k l q))

-- Places behind an edge.
module _ {e : Option Net} where
  pub ended-some : {f : ℕ} {x : Net} → Ended f e → e ≡ Some x → Clean f x
  ended-some h q = rw q at h

  module _ (q : Bits) where
    pub past-none : e ≡ None → true ≡ is_past (place_of e) q
    past-none h = sym (ap (λ o. is_past (place_of o) q) h)

    pub past-some : {x : Net} {r : Bool} → e ≡ Some x → r ≡ ahead (net_bits x) q → r ≡ is_past (place_of e) q
    past-some h k = k ∙ sym (ap (λ o. is_past (place_of o) q) h)

    pub beyond-none : e ≡ None → false ≡ is_beyond (place_of e) q
    beyond-none h = sym (ap (λ o. is_beyond (place_of o) q) h)

    pub beyond-some : {x : Net} {r : Bool} → e ≡ Some x → r ≡ ahead (net_bits x) q → r ≡ is_beyond (place_of e) q
    beyond-some h k = k ∙ sym (ap (λ o. is_beyond (place_of o) q) h)
