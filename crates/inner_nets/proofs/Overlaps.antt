-- Which networks and lists overlap. What overlaps a part overlaps the whole, so a list overlaps no more than one whose members hold each of its own.
-- Assumes nothing.
use mathlib.Core.Bool.{Bool, true, false, not, cond, ◌&&◌, ◌||◌, or-true}
use mathlib.Core.List.{List, [], ◌∷◌, ◌++◌}
use mathlib.Core.Logic.{inl, inr}
use mathlib.Core.Path.{◌≡◌, refl, sym, ◌∙◌}
use native.Mathlib.Decide.{dec_le}
use native.Mathlib.Omega.{arith}
use lib.ListN.{length}
use Rattle.nets.specs.Bits.{Bits, leads, equal}
use Rattle.nets.specs.Lists.{any_of, member, covers, leads_any, add_l, remove_l}
use Rattle.nets.proofs.Strings.{and_left, or_cases, bool_iff, equal-refl, equal_is, leads-refl, leads-trans, leads-shorter}
use Rattle.nets.proofs.Members.{any_of-append, any_of-in, any_of-out}
use Rattle.nets.proofs.Adding.{member-add_l}
use Rattle.nets.proofs.Removing.{parts, member-remove_l}
use Rattle.inner_nets.specs.Inner.{overlap, overlaps_one, overlaps}

-- Two networks.
pub overlap-shared : (p q a : Bits) → leads p a ≡ true → leads q a ≡ true → overlap p q ≡ true
overlap-shared p q a h k =
    elim (dec_le (length p) (length q)) [
      | yes n ↦ rw (leads-shorter p q a h k n)
      | no n ↦ rw (leads-shorter q p a k h (omega arith)) (or-true (leads p q))
    ]

pub overlap-inside : (m n q : Bits) → leads m n ≡ true → overlap n q ≡ true → overlap m q ≡ true
overlap-inside m n q h e =
    elim (or_cases (leads n q) (leads q n) e) [
      | inl x ↦ rw (leads-trans m n q h x)
      | inr x ↦ overlap-shared m q n h x
    ]

-- A list and a network.
or-middle : (a b c d : Bool) → ((a || b) || (c || d)) ≡ ((a || c) || (b || d))
or-middle true b c d = refl
or-middle false true c d = sym (or-true c)
or-middle false false c d = refl

pub any_of-or : (f g : Bits → Bool) (l : List Bits) → any_of (λ p. f p || g p) l ≡ (any_of f l || any_of g l)
any_of-or f g [] = refl
any_of-or f g (p ∷ l) = rw (any_of-or f g l) (or-middle (f p) (g p) (any_of f l) (any_of g l))

pub overlaps_one-covers : (l : List Bits) (q : Bits) → overlaps_one l q ≡ (covers l q || leads_any q l)
overlaps_one-covers l q = any_of-or (λ p. leads p q) (leads q) l

pub member-covers : (l : List Bits) (p : Bits) → member p l ≡ true → covers l p ≡ true
member-covers l p h = any_of-in (λ m. leads m p) p l h (leads-refl p)

-- each member of l lies inside one of m
abbrev pub Under : List Bits → List Bits → Type 0
Under l m = (p : Bits) → member p l ≡ true → covers m p ≡ true

pub overlaps_one-under : (l m : List Bits) (q : Bits) → Under l m → overlaps_one l q ≡ true → overlaps_one m q ≡ true
overlaps_one-under l m q u e =
    let (p, i, c) = any_of-out (λ p. overlap p q) l e in
    let (n, j, d) = any_of-out (λ n. leads n p) m (u p i) in
    any_of-in (λ p. overlap p q) n m j (overlap-inside n p q d c)

pub overlaps_one-same : (l m : List Bits) (q : Bits) → Under l m → Under m l → overlaps_one l q ≡ overlaps_one m q
overlaps_one-same l m q u v = bool_iff (overlaps_one l q) (overlaps_one m q) (overlaps_one-under l m q u) (overlaps_one-under m l q v)

-- adding puts n there, and leaves out only what lies inside it
under-add : (l : List Bits) (n : Bits) → Under (add_l l n) (n ∷ l)
under-add l n p h = go (covers l n) (sym (member-add_l p n l) ∙ h)
  where
    go : (x : Bool) → cond x (member p l) (equal p n || (member p l && not (leads n p))) ≡ true → covers (n ∷ l) p ≡ true
    go true k = rw (member-covers l p k) (or-true (leads n p))
    go false k =
        elim (or_cases (equal p n) (member p l && not (leads n p)) k) [
          | inl e ↦ rw (equal_is p n e, leads-refl n)
          | inr e ↦ rw (member-covers l p (and_left (member p l) (not (leads n p)) e)) (or-true (leads n p))
        ]

add-under : (l : List Bits) (n : Bits) → Under (n ∷ l) (add_l l n)
add-under l n p h = go (covers l n) refl
  where
    there : (x : Bool) → covers l n ≡ x → (q : Bits) → cond x (member q l) (equal q n || (member q l && not (leads n q))) ≡ true → member q (add_l l n) ≡ true
    there x e q k = member-add_l q n l ∙ rw e k

    own : (x : Bool) → covers l n ≡ x → covers (add_l l n) n ≡ true
    own true e = let (m, i, d) = any_of-out (λ m. leads m n) l e in any_of-in (λ m. leads m n) m (add_l l n) (there true e m i) d
    own false e = member-covers (add_l l n) n (there false e n (rw (equal-refl n)))

    rest : (x y : Bool) → covers l n ≡ x → leads n p ≡ y → member p l ≡ true → covers (add_l l n) p ≡ true
    rest true y e d k = member-covers (add_l l n) p (there true e p k)
    rest false true e d k = any_of-in (λ m. leads m p) n (add_l l n) (there false e n (rw (equal-refl n))) d
    rest false false e d k = member-covers (add_l l n) p (there false e p (rw (k, d) (or-true (equal p n))))

    go : (x : Bool) → covers l n ≡ x → covers (add_l l n) p ≡ true
    go x e =
        elim (or_cases (equal p n) (member p l) h) [
          | inl k ↦ rw (equal_is p n k) (own x e)
          | inr k ↦ rest x (leads n p) e refl k
        ]

pub overlaps_one-add : (l : List Bits) (n q : Bits) → overlaps_one (add_l l n) q ≡ (overlap n q || overlaps_one l q)
overlaps_one-add l n q = overlaps_one-same (add_l l n) (n ∷ l) q (under-add l n) (add-under l n)

pub under-remove : (l : List Bits) (n : Bits) → Under (remove_l l n) l
under-remove l n p h = go (parts p n) (sym (member-remove_l n p l) ∙ h)
  where
    go : (x : Bool) → cond x (covers l p) (member p l && not (leads n p || leads p n)) ≡ true → covers l p ≡ true
    go true k = k
    go false k = member-covers l p (and_left (member p l) (not (leads n p || leads p n)) k)

-- Two lists.
pub overlaps-under : (l m k : List Bits) → Under l m → overlaps l k ≡ true → overlaps m k ≡ true
unfolding overlaps
overlaps-under l m k u e = let (q, i, c) = any_of-out (overlaps_one l) k e in any_of-in (overlaps_one m) q k i (overlaps_one-under l m q u c)

any_of-cong : (f g : Bits → Bool) (l : List Bits) → ((p : Bits) → f p ≡ g p) → any_of f l ≡ any_of g l
any_of-cong f g [] h = refl
any_of-cong f g (p ∷ l) h = simp (h p, any_of-cong f g l h)

pub overlaps-same : (l m k : List Bits) → ((q : Bits) → overlaps_one l q ≡ overlaps_one m q) → overlaps l k ≡ overlaps m k
unfolding overlaps
overlaps-same l m k h = any_of-cong (overlaps_one l) (overlaps_one m) k h

pub overlaps-or : (l m n k : List Bits) → ((q : Bits) → overlaps_one l q ≡ (overlaps_one m q || overlaps_one n q)) → overlaps l k ≡ (overlaps m k || overlaps n k)
unfolding overlaps
overlaps-or l m n k h = any_of-cong (overlaps_one l) (λ q. overlaps_one m q || overlaps_one n q) k h ∙ any_of-or (overlaps_one m) (overlaps_one n) k

pub overlaps-nil : (k : List Bits) → overlaps [] k ≡ false
unfolding overlaps
overlaps-nil [] = refl
overlaps-nil (q ∷ k) = overlaps-nil k

pub overlaps-append : (l m k : List Bits) → overlaps (l ++ m) k ≡ (overlaps l k || overlaps m k)
overlaps-append l m k = overlaps-or (l ++ m) l m k (λ q. any_of-append (λ p. overlap p q) l m)

pub overlaps-cons : (p : Bits) (l k : List Bits) → overlaps (p ∷ l) k ≡ (overlaps (p ∷ []) k || overlaps l k)
overlaps-cons p l k = overlaps-append (p ∷ []) l k

pub overlaps-add : (l : List Bits) (n : Bits) (k : List Bits) → overlaps (add_l l n) k ≡ (overlaps (n ∷ []) k || overlaps l k)
overlaps-add l n k = overlaps-same (add_l l n) (n ∷ l) k (overlaps_one-add l n) ∙ overlaps-cons n l k
