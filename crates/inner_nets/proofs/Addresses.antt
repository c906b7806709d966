-- Overlap by addresses, bit strings of the width w: two networks overlap exactly if one is led by both, two lists exactly if one is covered by both. So
-- overlap depends on the covered addresses alone, and a list is public exactly if it covers no address of an inner network. Assumes nothing.
use mathlib.Core.Bool.{Bool, true, false, not}
use mathlib.Core.List.{List, ◌++◌}
use mathlib.Core.Logic.{inl, inr}
use mathlib.Core.Path.{◌≡◌, refl, ap, sym, ◌∙◌}
use Prim.Native.Nat.{ℕ, ◌-◌, ◌≤◌}
use native.Mathlib.Omega.{arith}
use lib.ListN.{length, replicate, length-append, length-replicate}
use Rattle.nets.specs.Bits.{Bits, leads}
use Rattle.nets.specs.Lists.{covers, within}
use Rattle.nets.specs.Networks.{width}
use Rattle.nets.proofs.Strings.{or_cases, bool_iff, leads-trans, leads-append}
use Rattle.nets.proofs.Members.{any_of-in, any_of-out}
use Rattle.nets.proofs.ShortestOne.{within-member}
use Rattle.nets.proofs.TrieOf.{is_list-within}
use Rattle.inner_nets.specs.Inner.{overlap, overlaps_one, overlaps, inner, is_public}
use Rattle.inner_nets.proofs.Overlaps.{overlap-shared}
use Rattle.inner_nets.proofs.InnerLists.{is_list-inner}

-- Two networks.
module _ (w : ℕ) where
  -- the first address of a network
  extend : (p : Bits) → length p ≤ w → (a : Bits) × (length a ≡ w) × (leads p a ≡ true)
  extend p h =
      let z = replicate (w - length p) false in
      (p ++ z, omega (arith, length-append p z, length-replicate (w - length p) false), leads-append p z)

  pub overlap-address : (p q : Bits) → length p ≤ w → length q ≤ w → overlap p q ≡ true → (a : Bits) × (length a ≡ w) × (leads p a ≡ true) × (leads q a ≡ true)
  overlap-address p q h k e =
      elim (or_cases (leads p q) (leads q p) e) [
        | inl x ↦ let (a, n, y) = extend q k in (a, n, leads-trans p q a x y, y)
        | inr x ↦ let (a, n, y) = extend p h in (a, n, y, leads-trans q p a x y)
      ]

-- Two lists of the width.
abbrev pub Shares : ℕ → List Bits → List Bits → Type 0
Shares w l m = (a : Bits) × (length a ≡ w) × (covers l a ≡ true) × (covers m a ≡ true)

module _ (w : ℕ) (l m : List Bits) where
  pub overlaps-address : within w l ≡ true → within w m ≡ true → overlaps l m ≡ true → Shares w l m
  unfolding overlaps
  overlaps-address h k e =
      let (q, j, d) = any_of-out (overlaps_one l) m e in
      let (p, i, c) = any_of-out (λ p. overlap p q) l d in
      let (a, n, x, y) = overlap-address w p q (within-member w l p h i) (within-member w m q k j) c in
      (a, n, any_of-in (λ p. leads p a) p l i x, any_of-in (λ q. leads q a) q m j y)

  pub address-overlaps : Shares w l m → overlaps l m ≡ true
  unfolding overlaps
  address-overlaps (a, n, x, y) =
      let (p, i, c) = any_of-out (λ p. leads p a) l x in
      let (q, j, d) = any_of-out (λ q. leads q a) m y in
      any_of-in (overlaps_one l) q m j (any_of-in (λ p. overlap p q) p l i (overlap-shared p q a c d))

-- A list that covers no more overlaps no more, and lists that cover the same overlap the same.
pub overlaps-less : (w : ℕ) (l m k : List Bits) → within w l ≡ true → within w k ≡ true → ((a : Bits) → length a ≡ w → covers l a ≡ true → covers m a ≡ true)
    → overlaps l k ≡ true → overlaps m k ≡ true
overlaps-less w l m k h g s e = let (a, n, x, y) = overlaps-address w l k h g e in address-overlaps w m k (a, n, s a n x, y)

pub overlaps-covers : (w : ℕ) (l m k : List Bits) → within w l ≡ true → within w m ≡ true → within w k ≡ true → ((a : Bits) → length a ≡ w → covers l a ≡ covers m a)
    → overlaps l k ≡ overlaps m k
overlaps-covers w l m k h g i s =
    bool_iff (overlaps l k) (overlaps m k) (overlaps-less w l m k h i (λ a n x. sym (s a n) ∙ x)) (overlaps-less w m l k g i (λ a n x. s a n ∙ x))

-- What a public list is.
module _ (f : ℕ) (l : List Bits) where
  pub is_public-apart : is_public f l ≡ true → (a : Bits) → length a ≡ width f → covers l a ≡ true → covers (inner f) a ≡ false
  unfolding is_public
  is_public-apart h a n x = go (covers (inner f) a) refl
    where
      go : (c : Bool) → covers (inner f) a ≡ c → c ≡ false
      go true e = sym h ∙ ap not (address-overlaps (width f) l (inner f) (a, n, x, e))
      go false e = refl

  pub apart-is_public : within (width f) l ≡ true → ((a : Bits) → length a ≡ width f → covers l a ≡ true → covers (inner f) a ≡ false) → is_public f l ≡ true
  unfolding is_public
  apart-is_public h s = go (overlaps l (inner f)) refl
    where
      go : (c : Bool) → overlaps l (inner f) ≡ c → not c ≡ true
      go true e = let (a, n, x, y) = overlaps-address (width f) l (inner f) h (is_list-within (width f) (inner f) (is_list-inner f)) e in sym (s a n x) ∙ y
      go false e = refl
