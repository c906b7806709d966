-- Bit strings: equality, and which leads which. Assumes nothing.
use mathlib.Core.Bool.{Bool, true, false, not, cond, ◌&&◌, ◌||◌, beq as same, false≢true}
use mathlib.Core.List.{[], ◌∷◌, ◌++◌}
use mathlib.Core.Logic.{◌⊎◌, inl, inr}
use mathlib.Core.Path.{◌≡◌, refl, sym}
use Prim.Native.Nat.{◌≤◌}
use native.Mathlib.Omega.{arith}
use lib.ListN.{length}
use Rattle.nets.specs.Bits.{Bits, leads, equal}

-- Booleans: a conjunction and a disjunction taken apart, and two tests that follow from each other.
pub and_left : (a b : Bool) → (a && b) ≡ true → a ≡ true
and_left true b e = refl
and_left false b e = e

pub and_right : (a b : Bool) → (a && b) ≡ true → b ≡ true
and_right true b e = e
and_right false b e = absurd (false≢true e)

pub and_both : (a b : Bool) → a ≡ true → b ≡ true → (a && b) ≡ true
and_both true b e f = f
and_both false b e f = e

pub or_cases : (a b : Bool) → (a || b) ≡ true → (a ≡ true) ⊎ (b ≡ true)
or_cases true b e = inl refl
or_cases false b e = inr e

pub bool_iff : (a b : Bool) → (a ≡ true → b ≡ true) → (b ≡ true → a ≡ true) → a ≡ b
bool_iff true b f g = sym (f refl)
bool_iff false true f g = g refl
bool_iff false false f g = refl

pub cond_both : {A : Type 0} (P : A → Type 0) (x : Bool) (a b : A) → P a → P b → P (cond x a b)
cond_both P true a b h k = h
cond_both P false a b h k = k

pub same_refl : (b : Bool) → same b b ≡ true
same_refl false = refl
same_refl true = refl

pub same-is : (b c : Bool) → same b c ≡ true → b ≡ c
same-is false false e = refl
same-is false true e = absurd (false≢true e)
same-is true false e = absurd (false≢true e)
same-is true true e = refl

pub equal-refl : (p : Bits) → equal p p ≡ true
equal-refl [] = refl
equal-refl (b ∷ p) = simp (same_refl, equal-refl p)

pub equal_is : (p q : Bits) → equal p q ≡ true → p ≡ q
equal_is [] [] e = refl
equal_is [] (c ∷ q) e = absurd (false≢true e)
equal_is (b ∷ p) [] e = absurd (false≢true e)
equal_is (b ∷ p) (c ∷ q) e =
    let h = same-is b c (and_left (same b c) (equal p q) e) in
    let k = equal_is p q (and_right (same b c) (equal p q) e) in
    cc

pub leads-head : (b c : Bool) (p q : Bits) → leads (b ∷ p) (c ∷ q) ≡ true → b ≡ c
leads-head b c p q e = same-is b c (and_left (same b c) (leads p q) e)

pub leads-tail : (b c : Bool) (p q : Bits) → leads (b ∷ p) (c ∷ q) ≡ true → leads p q ≡ true
leads-tail b c p q e = and_right (same b c) (leads p q) e

pub leads-cons : (b : Bool) (p q : Bits) → leads p q ≡ true → leads (b ∷ p) (b ∷ q) ≡ true
leads-cons b p q e = and_both (same b b) (leads p q) (same_refl b) e

pub leads-refl : (p : Bits) → leads p p ≡ true
leads-refl [] = refl
leads-refl (b ∷ p) = simp (same_refl, leads-refl p)

pub leads-length : (p q : Bits) → leads p q ≡ true → length p ≤ length q
leads-length [] q e = omega arith
leads-length (b ∷ p) [] e = absurd (false≢true e)
leads-length (b ∷ p) (c ∷ q) e = omega (arith, leads-length p q (leads-tail b c p q e))

pub leads-append : (p q : Bits) → leads p (p ++ q) ≡ true
leads-append [] q = refl
leads-append (b ∷ p) q = leads-cons b p (p ++ q) (leads-append p q)

-- a longest leading string is the whole
pub leads-all : (p q : Bits) → leads p q ≡ true → length q ≤ length p → p ≡ q
leads-all [] [] e h = refl
leads-all [] (c ∷ q) e h = absurd (omega arith)
leads-all (b ∷ p) [] e h = absurd (false≢true e)
leads-all (b ∷ p) (c ∷ q) e h =
    let x = leads-head b c p q e in
    let y = leads-all p q (leads-tail b c p q e) (omega arith) in
    cc

pub leads-trans : (p q a : Bits) → leads p q ≡ true → leads q a ≡ true → leads p a ≡ true
leads-trans [] q a h k = refl
leads-trans (b ∷ p) [] a h k = absurd (false≢true h)
leads-trans (b ∷ p) (c ∷ q) [] h k = absurd (false≢true k)
leads-trans (b ∷ p) (c ∷ q) (d ∷ a) h k =
    rw (leads-head b c p q h, leads-head c d q a k) (leads-cons d p a (leads-trans p q a (leads-tail b c p q h) (leads-tail c d q a k)))

-- of two strings that lead a third the shorter leads the longer
pub leads-shorter : (p q a : Bits) → leads p a ≡ true → leads q a ≡ true → length p ≤ length q → leads p q ≡ true
leads-shorter [] q a h k n = refl
leads-shorter (b ∷ p) [] a h k n = absurd (omega arith)
leads-shorter (b ∷ p) (c ∷ q) [] h k n = absurd (false≢true h)
leads-shorter (b ∷ p) (c ∷ q) (d ∷ a) h k n =
    rw (leads-head b d p a h, leads-head c d q a k) (leads-cons d p q (leads-shorter p q a (leads-tail b d p a h) (leads-tail c d q a k) (omega arith)))
