-- A list in address order, equal ones side by side, thinned in one pass: what is kept is a chain of its members that covers it. Every list can be put in that order. Assumes nothing.
use mathlib.Core.Bool.{Bool, true, false, not, cond, ◌&&◌, ◌||◌, or-true, false≢true, true≢false}
use mathlib.Core.List.{List, [], ◌∷◌}
use mathlib.Core.Logic.{◌⊎◌, inl, inr}
use mathlib.Core.Path.{◌≡◌, refl, ap, sym, subst, ◌∙◌}
use Prim.Native.Nat.{◌≤◌}
use native.Mathlib.Omega.{arith}
use lib.ListN.{length}
use Rattle.nets.specs.Bits.{Bits, leads, equal}
use Rattle.nets.specs.Lists.{any_of, member, covers}
use Rattle.nets.proofs.Strings.{leads-refl, equal_is}
use Rattle.nets.proofs.Members.{any_of-in}
use Rattle.address_order.specs.Streams.{earlier, put_in_order, in_address_order}
use Rattle.address_order.proofs.AddressOrder.{earlier-trans, earlier-total, earlier-not, leads-later}
use Rattle.address_order.proofs.Rising.{member-cons, member-first, member-later}
use Rattle.address_order.proofs.Sorted.{any_of-put}
use Rattle.salvage_lists.specs.Ahead.{ahead, Leads, Chain, Squeezed, thin_behind, thinned, Sorted}
use Rattle.salvage_lists.proofs.Ahead.{ahead-trans, Compared, first, second, outer, inner, compare}
use Rattle.salvage_lists.proofs.Chains.{no, ahead-earlier}

-- what is not earlier and is not led is behind
pub later-ahead : (p q : Bits) → earlier q p ≡ false → leads p q ≡ false → ahead p q ≡ true
later-ahead p q n l = go (compare p q)
  where
    inside : leads q p ≡ true → ahead p q ≡ true
    inside k = go' (earlier p q) refl
      where
        go' : (x : Bool) → earlier p q ≡ x → ahead p q ≡ true
        go' true e = no k (leads-later p q e)
        go' false e = no (rw (earlier-total p q e n) (leads-refl q)) l

    go : Compared p q → ahead p q ≡ true
    go (first e) = e
    go (second e) = no (ahead-earlier q p e) n
    go (outer e) = no e l
    go (inner e) = inside e

-- Behind p, which is not later than the members.
pub record Behind (p : Bits) (l m : List Bits) : Type 0 where
  pub chain : Chain (p ∷ m)
  pub inside : (q : Bits) → member q m ≡ true → member q l ≡ true
  pub reach : (q : Bits) → member q l ≡ true → covers (p ∷ m) q ≡ true

thin-behind : (p : Bits) (l : List Bits) → Sorted (p ∷ l) → Behind p l (thin_behind p l)
unfolding thin_behind
thin-behind p [] s = record { chain = (λ q k. absurd (false≢true k), tt); inside = λ q k. k; reach = λ q k. absurd (false≢true k) }
thin-behind p (x ∷ l) s = go (leads p x) refl (thin-behind p l ((λ q k. s.0 q (member-later q x l k)), s.1.1)) (thin-behind x l s.1)
  where
    led : leads p x ≡ true → Behind p l (thin_behind p l) → (q : Bits) → (q ≡ x) ⊎ (member q l ≡ true) → covers (p ∷ thin_behind p l) q ≡ true
    led e h q (inl k) = rw (k, e)
    led e h q (inr k) = h.reach q k

    kept-ahead : ahead p x ≡ true → Behind x l (thin_behind x l) → (q : Bits) → (q ≡ x) ⊎ (member q (thin_behind x l) ≡ true) → ahead p q ≡ true
    kept-ahead e h q (inl k) = rw k e
    kept-ahead e h q (inr k) = ahead-trans p x q e (h.chain.0 q k)

    kept_in : Behind x l (thin_behind x l) → (q : Bits) → (q ≡ x) ⊎ (member q (thin_behind x l) ≡ true) → member q (x ∷ l) ≡ true
    kept_in h q (inl k) = subst (λ z. member z (x ∷ l) ≡ true) (sym k) (member-first x l)
    kept_in h q (inr k) = member-later q x l (h.inside q k)

    kept-reach : Behind x l (thin_behind x l) → (q : Bits) → (q ≡ x) ⊎ (member q l ≡ true) → covers (p ∷ x ∷ thin_behind x l) q ≡ true
    kept-reach h q (inl k) = rw (k, leads-refl x) (or-true (leads p x))
    kept-reach h q (inr k) = ap (λ z. leads p q || z) (h.reach q k) ∙ or-true (leads p q)

    go : (b : Bool) → leads p x ≡ b → Behind p l (thin_behind p l) → Behind x l (thin_behind x l) → Behind p (x ∷ l) (cond b (thin_behind p l) (x ∷ thin_behind x l))
    go true e h g = record { chain = h.chain; inside = λ q k. member-later q x l (h.inside q k); reach = λ q k. led e h q (member-cons q x l k) }
    go false e h g =
        let a = later-ahead p x (s.0 x (member-first x l)) e in
        record {
          chain = (λ q k. kept-ahead a g q (member-cons q x (thin_behind x l) k), g.chain);
          inside = λ q k. kept_in g q (member-cons q x (thin_behind x l) k);
          reach = λ q k. kept-reach g q (member-cons q x l k);
        }

pub thin-squeezed : (l : List Bits) → Sorted l → Squeezed l (thinned l)
unfolding thinned
thin-squeezed [] s = record { chain = tt; inside = λ q k. k; reach = λ q k. absurd (false≢true k) }
thin-squeezed (p ∷ l) s = record { chain = h.chain; inside = λ q k. in_all q (member-cons q p (thin_behind p l) k); reach = λ q k. reached q (member-cons q p l k) }
  where
    h : Behind p l (thin_behind p l)
    h = thin-behind p l s

    in_all : (q : Bits) → (q ≡ p) ⊎ (member q (thin_behind p l) ≡ true) → member q (p ∷ l) ≡ true
    in_all q (inl k) = subst (λ z. member z (p ∷ l) ≡ true) (sym k) (member-first p l)
    in_all q (inr k) = member-later q p l (h.inside q k)

    reached : (q : Bits) → (q ≡ p) ⊎ (member q l ≡ true) → covers (p ∷ thin_behind p l) q ≡ true
    reached q (inl k) = rw (k, leads-refl p)
    reached q (inr k) = h.reach q k

-- Every list can be put in that order.
sorted-put : (n : Bits) (l : List Bits) → Sorted l → Sorted (put_in_order n l)
unfolding put_in_order
sorted-put n [] s = (λ q k. absurd (false≢true k), tt)
sorted-put n (m ∷ l) s = go (earlier n m) refl (sorted-put n l s.1)
  where
    not-before : earlier n m ≡ true → (q : Bits) → (q ≡ m) ⊎ (member q l ≡ true) → (x : Bool) → earlier q n ≡ x → earlier q n ≡ false
    not-before e q k false f = f
    not-before e q (inl k) true f = rw k (earlier-not n m e)
    not-before e q (inr k) true f = no (earlier-trans q n m f e) (s.0 q k)

    behind : earlier n m ≡ false → (q : Bits) → (q ≡ n) ⊎ (member q l ≡ true) → earlier q m ≡ false
    behind e q (inl k) = rw k e
    behind e q (inr k) = s.0 q k

    go : (x : Bool) → earlier n m ≡ x → Sorted (put_in_order n l) → Sorted (cond x (n ∷ m ∷ l) (m ∷ put_in_order n l))
    go true e ih = ((λ q k. not-before e q (member-cons q m l k) (earlier q n) refl), s)
    go false e ih = ((λ q k. behind e q (member-cons q n l (sym (any_of-put (equal q) n l) ∙ k))), ih)

pub sorted-order : (l : List Bits) → Sorted (in_address_order l)
unfolding in_address_order
sorted-order [] = tt
sorted-order (n ∷ l) = sorted-put n (in_address_order l) (sorted-order l)
