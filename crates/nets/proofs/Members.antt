-- What holds of some member of a list: of a list in two parts, of the members kept, and the member that shows it. Assumes nothing.
use mathlib.Core.Bool.{Bool, true, false, not, cond, ◌&&◌, ◌||◌, or-true, or_assoc, and-false, false≢true, beq as same}
use mathlib.Core.List.{List, [], ◌∷◌, ◌++◌, map}
use mathlib.Core.Logic.{◌⊎◌, inl, inr}
use mathlib.Core.Path.{◌≡◌, refl, ap, sym, ◌∙◌}
use Prim.Native.Nat.{suc, ◌≤◌, ◌<◌}
use native.Mathlib.Omega.{arith}
use lib.ListN.{length}
use Rattle.nets.specs.Bits.{Bits, equal}
use Rattle.nets.specs.Lists.{any_of, member, keep}
use Rattle.nets.proofs.Strings.{and_left, and_right, and_both, or_cases, bool_iff, cond_both, equal-refl, equal_is}

pub any_of-append : (f : Bits → Bool) (l m : List Bits) → any_of f (l ++ m) ≡ (any_of f l || any_of f m)
any_of-append f [] m = refl
any_of-append f (p ∷ l) m = simp (any_of-append f l m, or_assoc)

pub any_of-cond : (f : Bits → Bool) (b : Bool) (l m : List Bits) → any_of f (cond b l m) ≡ cond b (any_of f l) (any_of f m)
any_of-cond f true l m = refl
any_of-cond f false l m = refl

-- the members kept are those of which both hold
pub any_of-keep : (f g : Bits → Bool) (l : List Bits) → any_of g (keep f l) ≡ any_of (λ m. f m && g m) l
any_of-keep f g [] = refl
any_of-keep f g (m ∷ l) = any_of-cond g (f m) (m ∷ keep f l) (keep f l) ∙ simp (any_of-keep f g l) (go (f m) (g m) (any_of (λ m. f m && g m) l))
  where
    go : (a b c : Bool) → cond a (b || c) c ≡ ((a && b) || c)
    go true b c = refl
    go false b c = refl

-- A member of which f holds, from the test and back.
pub any_of-in : (f : Bits → Bool) (p : Bits) (l : List Bits) → member p l ≡ true → f p ≡ true → any_of f l ≡ true
any_of-in f p [] h e = absurd (false≢true h)
any_of-in f p (m ∷ l) h e = go (or_cases (equal p m) (member p l) h) (λ k. any_of-in f p l k e)
  where
    go : (equal p m ≡ true) ⊎ (member p l ≡ true) → (member p l ≡ true → any_of f l ≡ true) → (f m || any_of f l) ≡ true
    go (inl k) ih = ap (λ z. f z || any_of f l) (sym (equal_is p m k)) ∙ ap (λ z. z || any_of f l) e
    go (inr k) ih = ap (λ z. f m || z) (ih k) ∙ or-true (f m)

pub any_of-out : (f : Bits → Bool) (l : List Bits) → any_of f l ≡ true → (p : Bits) × (member p l ≡ true) × (f p ≡ true)
any_of-out f [] h = absurd (false≢true h)
any_of-out f (m ∷ l) h = go (or_cases (f m) (any_of f l) h) (any_of-out f l)
  where
    go : (f m ≡ true) ⊎ (any_of f l ≡ true) → (any_of f l ≡ true → (p : Bits) × (member p l ≡ true) × (f p ≡ true)) → (p : Bits) × ((equal p m || member p l) ≡ true) × (f p ≡ true)
    go (inl k) ih = (m, simp equal-refl, k)
    go (inr k) ih = let r = ih k in (r.0, ap (λ z. equal r.0 m || z) r.1 ∙ or-true (equal r.0 m), r.2)

-- Two lists with the same members agree on every such test.
pub any_of-same : (f : Bits → Bool) (l m : List Bits) → ((q : Bits) → member q l ≡ member q m) → any_of f l ≡ any_of f m
any_of-same f l m h =
    bool_iff (any_of f l) (any_of f m)
    (λ e. let r = any_of-out f l e in any_of-in f r.0 m (sym (h r.0) ∙ r.1) r.2)
    (λ e. let r = any_of-out f m e in any_of-in f r.0 l (h r.0 ∙ r.1) r.2)

pub member-keep : (f : Bits → Bool) (q : Bits) (l : List Bits) → member q (keep f l) ≡ (member q l && f q)
member-keep f q l =
    bool_iff (member q (keep f l)) (member q l && f q)
    (λ e. let r = any_of-out (λ m. f m && equal q m) l (sym (any_of-keep f (equal q) l) ∙ e) in
    let s = equal_is q r.0 (and_right (f r.0) (equal q r.0) r.2) in
    rw s (and_both (member r.0 l) (f r.0) r.1 (and_left (f r.0) (equal q r.0) r.2)))
    (λ e. any_of-keep f (equal q) l ∙ any_of-in (λ m. f m && equal q m) q l (and_left (member q l) (f q) e) (and_both (f q) (equal q q) (and_right (member q l) (f q) e) (equal-refl q)))

pub length-keep : (f : Bits → Bool) (l : List Bits) → length (keep f l) ≤ length l
length-keep f [] = omega arith
length-keep f (m ∷ l) =
    let ih = length-keep f l in
    cond_both (λ z. length z ≤ suc (length l)) (f m) (m ∷ keep f l) (keep f l) (omega arith) (omega arith)

-- what leaves a member out is shorter
pub keep-fewer : (f : Bits → Bool) (l : List Bits) → any_of f l ≡ true → length (keep (λ m. not (f m)) l) < length l
keep-fewer f [] e = absurd (false≢true e)
keep-fewer f (m ∷ l) e = go (f m) e (keep-fewer f l)
  where
    go : (x : Bool) → (x || any_of f l) ≡ true → (any_of f l ≡ true → length (keep (λ m. not (f m)) l) < length l)
        → length (cond (not x) (m ∷ keep (λ m. not (f m)) l) (keep (λ m. not (f m)) l)) < suc (length l)
    go true e ih = omega (arith, length-keep (λ m. not (f m)) l)
    go false e ih = omega (arith, ih e)

-- One bit in front of each member.
pub member-map-end : (b : Bool) (l : List Bits) → member [] (map (λ p. b ∷ p) l) ≡ false
member-map-end b [] = refl
member-map-end b (p ∷ l) = member-map-end b l

pub member-map : (b c : Bool) (q : Bits) (l : List Bits) → member (c ∷ q) (map (λ p. b ∷ p) l) ≡ (same c b && member q l)
member-map b c q [] = sym (and-false (same c b))
member-map b c q (p ∷ l) = simp (member-map b c q l) (go (same c b) (equal q p) (member q l))
  where
    go : (a x y : Bool) → ((a && x) || (a && y)) ≡ (a && (x || y))
    go true x y = refl
    go false x y = refl
