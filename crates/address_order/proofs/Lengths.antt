-- The members with k bits. Strings of one length stand alike in a list and in address order, so that they are the same list in both. Assumes nothing.
use mathlib.Core.Bool.{Bool, true, false, cond, ◌&&◌, true≢false}
use mathlib.Core.List.{List, [], ◌∷◌}
use mathlib.Core.Path.{◌≡◌, refl, ap, sym, ◌∙◌}
use Prim.Native.Nat.{ℕ, suc, ◌-◌, ◌^◌, ◌≤◌, ◌<◌}
use native.Mathlib.Decide.{dec_lt}
use native.Mathlib.Omega.{arith}
use lib.Dec.{eqb}
use lib.ListN.{length}
use borrow.Author.Tests.{lt-ltb, eqb-true}
use Rattle.nets.specs.Bits.{Bits}
use Rattle.nets.specs.Lists.{member}
use Rattle.nets.proofs.Strings.{and_left, and_right}
use Rattle.nets.proofs.Order.{key, From, from-not}
use Rattle.nets.proofs.Members.{member-keep}
use Rattle.address_order.specs.Streams.{earlier, of_length}
use Rattle.address_order.proofs.AddressOrder.{number, earlier-number}
use Rattle.address_order.proofs.Rising.{Rise, rise-keep, rise_one}

-- Of one length, the smaller key is earlier.
pub key-earlier : (p q : Bits) → length p ≡ length q → key p < key q → earlier p q ≡ true
key-earlier p q e h =
    let x : length p - length p ≡ 0 = omega arith in
    let y : length p - length q ≡ 0 = omega arith in
    earlier-number (length p) p q (omega arith) (omega arith) ∙ rw (lt-ltb (number (length p) p) (number (length p) q) (rw (x, y) (omega (arith, ap (λ n. 2 ^ n) e))))

from_member : (lo : ℕ) (q : Bits) (l : List Bits) → From lo l → member q l ≡ true → lo ≤ key q
from_member lo q l i k = go (dec_lt (key q) lo)
  where
    go : Dec (key q < lo) → lo ≤ key q
    go (yes h) = absurd (true≢false (sym k ∙ from-not lo q l i h))
    go (no h) = omega arith

pub member-of_length : (k : ℕ) (q : Bits) (l : List Bits) → member q (of_length k l) ≡ (member q l && eqb (length q) k)
member-of_length k q l = member-keep (λ p. eqb (length p) k) q l

pub rise-of_length : (k lo : ℕ) (l : List Bits) → From lo l → Rise (of_length k l)
rise-of_length k lo [] i = tt
rise-of_length k lo (p ∷ l) i = go (eqb (length p) k) refl (rise-of_length k (suc (key p)) l i.1)
  where
    later : eqb (length p) k ≡ true → (q : Bits) → member q (of_length k l) ≡ true → earlier p q ≡ true
    later e q h =
        let g = sym (member-of_length k q l) ∙ h in
        let x = eqb-true (length p) k e in
        let y = eqb-true (length q) k (and_right (member q l) (eqb (length q) k) g) in
        key-earlier p q (omega arith) (from_member (suc (key p)) q l i.1 (and_left (member q l) (eqb (length q) k) g))

    go : (x : Bool) → eqb (length p) k ≡ x → Rise (of_length k l) → Rise (cond x (p ∷ of_length k l) (of_length k l))
    go true e ih = (later e, ih)
    go false e ih = ih

-- A rising list and an ascending one with the same members have the same members of each length, in the same order.
pub of_length-one : (k lo : ℕ) (l m : List Bits) → From lo l → Rise m → ((q : Bits) → member q l ≡ member q m) → of_length k l ≡ of_length k m
of_length-one k lo l m i r h =
    rise_one (of_length k l) (of_length k m) (rise-of_length k lo l i) (rise-keep (λ p. eqb (length p) k) m r)
    (λ q. member-of_length k q l ∙ ap (λ z. z && eqb (length q) k) (h q) ∙ sym (member-of_length k q m))
