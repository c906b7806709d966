-- A list by the lengths of its members, its lanes: what is left of each where the first member or the last is taken away, and that the first of a rising list is the least of the
-- lanes' first ones. Assumes nothing.
use mathlib.Core.Bool.{true, ◌&&◌, ◌||◌}
use mathlib.Core.List.{List, [], ◌∷◌, ◌++◌, append-nil}
use mathlib.Core.Logic.{◌⊎◌, inl, inr}
use mathlib.Core.Path.{◌≡◌, refl, ap, sym, ◌∙◌}
use Prim.Native.Nat.{ℕ, ◌≤◌}
use native.Mathlib.Omega.{arith}
use lib.Dec.{eqb, ltb}
use lib.ListN.{length}
use borrow.Author.Tests.{eqb-true, eq-eqb, ne_eqb, ltb-true}
use Rattle.nets.specs.Bits.{Bits}
use Rattle.nets.specs.Lists.{member}
use Rattle.nets.proofs.Strings.{and_left, and_right, or_cases}
use Rattle.address_order.specs.Streams.{rising, of_length}
use Rattle.address_order.proofs.AddressOrder.{number, earlier-number}
use Rattle.address_order.proofs.Rising.{member-cons, member-first, rising-first}
use Rattle.address_order.proofs.Flat.{keep_append}
use Rattle.address_order.proofs.Lengths.{member-of_length}

-- The first member stands at the front of its lane, and in no other.
pub of_length-head : (q : Bits) (ms : List Bits) → of_length (length q) (q ∷ ms) ≡ q ∷ of_length (length q) ms
of_length-head q ms = rw (eq-eqb (length q) (length q) refl)

pub of_length-other : (k : ℕ) (q : Bits) (ms : List Bits) → (length q ≡ k → ⊥) → of_length k (q ∷ ms) ≡ of_length k ms
of_length-other k q ms h = rw (ne_eqb (length q) k h)

-- So does the last member at the end.
pub of_length-append : (k : ℕ) (l m : List Bits) → of_length k (l ++ m) ≡ of_length k l ++ of_length k m
of_length-append k l m = keep_append (λ p. eqb (length p) k) l m

pub of_length-last : (q : Bits) (l : List Bits) → of_length (length q) (l ++ (q ∷ [])) ≡ of_length (length q) l ++ (q ∷ [])
of_length-last q l = of_length-append (length q) l (q ∷ []) ∙ ap (λ z. of_length (length q) l ++ z) (of_length-head q [])

pub of_length-last-other : (k : ℕ) (q : Bits) (l : List Bits) → (length q ≡ k → ⊥) → of_length k (l ++ (q ∷ [])) ≡ of_length k l
of_length-last-other k q l h = of_length-append k l (q ∷ []) ∙ ap (λ z. of_length k l ++ z) (of_length-other k q [] h) ∙ append-nil (of_length k l)

-- A lane's members are the list's of its length; a length that no member has is an empty lane.
pub of_length-member : (k : ℕ) (q : Bits) (l : List Bits) → member q (of_length k l) ≡ true → (member q l ≡ true) × (length q ≡ k)
of_length-member k q l e =
    let h = sym (member-of_length k q l) ∙ e in
    (and_left (member q l) (eqb (length q) k) h, eqb-true (length q) k (and_right (member q l) (eqb (length q) k) h))

pub of_length-first : (k : ℕ) (q : Bits) (ms l : List Bits) → of_length k l ≡ q ∷ ms → (member q l ≡ true) × (length q ≡ k)
of_length-first k q ms l e = of_length-member k q l (ap (member q) e ∙ member-first q ms)

pub of_length-none : (k : ℕ) (l : List Bits) → ((q : Bits) → member q l ≡ true → length q ≡ k → ⊥) → of_length k l ≡ []
of_length-none k l h = go (of_length k l) refl
  where
    go : (m : List Bits) → of_length k l ≡ m → m ≡ []
    go [] e = refl
    go (q ∷ m) e = let r = of_length-first k q m l e in absurd (h q r.0 r.1)

-- A member whose address is not above the first one's, and which is no longer where the two are equal, is the first.
pub rising-least : (w : ℕ) (m : Bits) (ms : List Bits) (q : Bits) → rising (m ∷ ms) ≡ true → member q (m ∷ ms) ≡ true → length m ≤ w → length q ≤ w → number w q ≤ number w m
    → (number w q ≡ number w m → length q ≤ length m) → q ≡ m
rising-least w m ms q r k h g a b = go (member-cons q m ms k)
  where
    later : (ltb (number w m) (number w q) || (eqb (number w m) (number w q) && ltb (length m) (length q))) ≡ true → ⊥
    later e = cases (or_cases (ltb (number w m) (number w q)) (eqb (number w m) (number w q) && ltb (length m) (length q)) e)
      where
        cases : (ltb (number w m) (number w q) ≡ true) ⊎ ((eqb (number w m) (number w q) && ltb (length m) (length q)) ≡ true) → ⊥
        cases (inl x) = omega (arith, ltb-true (number w m) (number w q) x)
        cases (inr x) =
            let y = eqb-true (number w m) (number w q) (and_left (eqb (number w m) (number w q)) (ltb (length m) (length q)) x) in
            omega (arith, b (sym y), ltb-true (length m) (length q) (and_right (eqb (number w m) (number w q)) (ltb (length m) (length q)) x))

    go : (q ≡ m) ⊎ (member q ms ≡ true) → q ≡ m
    go (inl x) = x
    go (inr x) = absurd (later (sym (earlier-number w m q h g) ∙ rising-first m ms r q x))
