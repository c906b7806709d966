-- Lists that rise in address order. `Rise l` says it of all pairs: each member is earlier than all behind it; so it is kept where members are left out, where a bit is put in
-- front of all, and where what is later is appended. Two rising lists with the same members are equal (`rise_one`). Assumes nothing.
use mathlib.Core.Bool.{Bool, true, false, cond, or-true, false≢true, true≢false, beq as same}
use mathlib.Core.List.{List, [], ◌∷◌, ◌++◌, map}
use mathlib.Core.Logic.{◌⊎◌, inl, inr}
use mathlib.Core.Path.{◌≡◌, refl, ap, sym, ◌∙◌}
use Rattle.nets.specs.Bits.{Bits, equal}
use Rattle.nets.specs.Lists.{member, keep}
use Rattle.nets.proofs.Strings.{and_left, and_right, and_both, or_cases, same_refl, same-is, equal-refl, equal_is}
use Rattle.nets.proofs.Members.{any_of-append, member-keep, member-map, member-map-end}
use Rattle.address_order.specs.Streams.{earlier, rising}
use Rattle.address_order.proofs.AddressOrder.{earlier-self, earlier-trans, earlier-total, earlier-not}

-- p is earlier than all members of l
abbrev pub Heads : Bits → List Bits → Type 0
Heads p l = (q : Bits) → member q l ≡ true → earlier p q ≡ true

abbrev pub Rise : List Bits → Type 0
Rise [] = Unit {0}
Rise (p ∷ l) = Heads p l × Rise l

-- a member is the first, or one of the others
pub member-cons : (q p : Bits) (l : List Bits) → member q (p ∷ l) ≡ true → (q ≡ p) ⊎ (member q l ≡ true)
member-cons q p l h = go (or_cases (equal q p) (member q l) h)
  where
    go : (equal q p ≡ true) ⊎ (member q l ≡ true) → (q ≡ p) ⊎ (member q l ≡ true)
    go (inl e) = inl (equal_is q p e)
    go (inr e) = inr e

pub member-first : (p : Bits) (l : List Bits) → member p (p ∷ l) ≡ true
member-first p l = rw (equal-refl p)

pub member-later : (q p : Bits) (l : List Bits) → member q l ≡ true → member q (p ∷ l) ≡ true
member-later q p l h = rw h (or-true (equal q p))

-- From neighbours to all pairs and back.
pub heads-cons : (p m : Bits) (l : List Bits) → earlier p m ≡ true → Heads m l → Heads p (m ∷ l)
heads-cons p m l e h q k = go (member-cons q m l k)
  where
    go : (q ≡ m) ⊎ (member q l ≡ true) → earlier p q ≡ true
    go (inl x) = rw x e
    go (inr x) = earlier-trans p m q e (h q x)

pub rising-first : (m : Bits) (ms : List Bits) → rising (m ∷ ms) ≡ true → Heads m ms
unfolding rising
rising-first m [] e q k = absurd (false≢true k)
rising-first m (n ∷ ms) e q k =
    heads-cons m n ms (and_left (earlier m n) (rising (n ∷ ms)) e) (rising-first n ms (and_right (earlier m n) (rising (n ∷ ms)) e)) q k

pub rising-tail : (m : Bits) (ms : List Bits) → rising (m ∷ ms) ≡ true → rising ms ≡ true
unfolding rising
rising-tail m [] e = refl
rising-tail m (n ∷ ms) e = and_right (earlier m n) (rising (n ∷ ms)) e

pub rise-rising : (l : List Bits) → Rise l → rising l ≡ true
unfolding rising
rise-rising [] r = refl
rise-rising (p ∷ []) r = refl
rise-rising (p ∷ q ∷ l) r = and_both (earlier p q) (rising (q ∷ l)) (r.0 q (member-first q l)) (rise-rising (q ∷ l) r.1)

-- Members left out; a bit in front of all; what is later appended.
pub rise-keep : (f : Bits → Bool) (l : List Bits) → Rise l → Rise (keep f l)
rise-keep f [] r = tt
rise-keep f (p ∷ l) r = go (f p) (rise-keep f l r.1)
  where
    go : (x : Bool) → Rise (keep f l) → Rise (cond x (p ∷ keep f l) (keep f l))
    go true ih = (λ q k. r.0 q (and_left (member q l) (f q) (sym (member-keep f q l) ∙ k)), ih)
    go false ih = ih

heads-map : (b : Bool) (p : Bits) (l : List Bits) → Heads p l → Heads (b ∷ p) (map (λ q. b ∷ q) l)
heads-map b p l h [] k = absurd (false≢true (sym (member-map-end b l) ∙ k))
heads-map b p l h (c ∷ q) k =
    let j = sym (member-map b c q l) ∙ k in
    let e = same-is c b (and_left (same c b) (member q l) j) in
    rw (e, same_refl b) (h q (and_right (same c b) (member q l) j))

pub rise-map : (b : Bool) (l : List Bits) → Rise l → Rise (map (λ q. b ∷ q) l)
rise-map b [] r = tt
rise-map b (p ∷ l) r = (heads-map b p l r.0, rise-map b l r.1)

member-append : (q : Bits) (l m : List Bits) → member q (l ++ m) ≡ true → (member q l ≡ true) ⊎ (member q m ≡ true)
member-append q l m k = or_cases (member q l) (member q m) (sym (any_of-append (equal q) l m) ∙ k)

pub rise-append : (l m : List Bits) → Rise l → Rise m → ((p : Bits) → member p l ≡ true → Heads p m) → Rise (l ++ m)
rise-append [] m r s h = s
rise-append (p ∷ l) m r s h = (λ q k. go q (member-append q l m k), rise-append l m r.1 s (λ q k. h q (member-later q p l k)))
  where
    go : (q : Bits) → (member q l ≡ true) ⊎ (member q m ≡ true) → earlier p q ≡ true
    go q (inl k) = r.0 q k
    go q (inr k) = h p (member-first p l) q k

-- Two rising lists with the same members are equal.
heads-not : (p : Bits) (l : List Bits) → Heads p l → member p l ≡ false
heads-not p l h = go (member p l) refl
  where
    go : (x : Bool) → member p l ≡ x → member p l ≡ false
    go true e = absurd (true≢false (sym (h p e) ∙ earlier-self p))
    go false e = e

-- the first of the one is not later than that of the other
first-not : (x y : Bits) (l m : List Bits) → Heads y m → ((q : Bits) → member q (x ∷ l) ≡ member q (y ∷ m)) → earlier x y ≡ false
first-not x y l m h e = go (member-cons x y m (sym (e x) ∙ member-first x l))
  where
    go : (x ≡ y) ⊎ (member x m ≡ true) → earlier x y ≡ false
    go (inl k) = rw k (earlier-self y)
    go (inr k) = earlier-not y x (h x k)

others_same : (x : Bits) (l m : List Bits) → Heads x l → Heads x m → ((q : Bits) → member q (x ∷ l) ≡ member q (x ∷ m)) → (q : Bits) → member q l ≡ member q m
others_same x l m i j h q = go (equal q x) refl
  where
    go : (b : Bool) → equal q x ≡ b → member q l ≡ member q m
    go true e = rw (equal_is q x e) (heads-not x l i ∙ sym (heads-not x m j))
    go false e = simp e at (h q)

pub rise_one : (l m : List Bits) → Rise l → Rise m → ((q : Bits) → member q l ≡ member q m) → l ≡ m
rise_one [] [] r s h = refl
rise_one [] (y ∷ m) r s h = absurd (false≢true (h y ∙ member-first y m))
rise_one (x ∷ l) [] r s h = absurd (true≢false (sym (member-first x l) ∙ h x))
rise_one (x ∷ l) (y ∷ m) r s h =
    let e : x ≡ y = earlier-total x y (first-not x y l m s.0 h) (first-not y x m l r.0 (λ q. sym (h q))) in
    let k : Heads x m = rw e s.0 in
    let g : (q : Bits) → member q (x ∷ l) ≡ member q (x ∷ m) = λ q. h q ∙ ap (λ z. member q (z ∷ m)) (sym e) in
    let t = rise_one l m r.1 s.1 (others_same x l m r.0 k g) in
    cc
