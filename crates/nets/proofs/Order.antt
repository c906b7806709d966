-- Lists of bit strings in order. `key p` is the number whose binary digits are a one and then p, so that the order of a list is that of the keys:
-- what follows of order is arithmetic on keys. Two ascending lists with the same members are equal (`unique`). Assumes nothing.
use mathlib.Core.Bool.{Bool, true, false, cond, ◌&&◌, ◌||◌, or-true, false≢true, true≢false}
use mathlib.Core.List.{List, [], ◌∷◌}
use mathlib.Core.Path.{◌≡◌, refl, ap, sym, ◌∙◌}
use Prim.Native.Nat.{ℕ, suc, ◌+◌, ◌^◌, ◌≤◌, ◌<◌}
use native.Mathlib.Nat.{pow-suc}
use native.Mathlib.Decide.{dec_lt}
use native.Mathlib.Omega.{arith}
use lib.Dec.{ltb, eqb}
use lib.ListN.{length}
use lib.Pow.{pow_mono}
use borrow.Author.Tests.{ltb-true, ltb-false, lt-ltb, le-ltb, eq-eqb, ne_eqb}
use Rattle.nets.specs.Bits.{Bits, equal, digit, val, before}
use Rattle.nets.specs.Lists.{member, ascending, insert_in, in_order}
use Rattle.nets.proofs.Strings.{and_left, and_right, and_both, bool_iff, equal-refl, equal_is}

abbrev pub key : Bits → ℕ
key p = 2 ^ length p + val p

digit-le : (b : Bool) → digit b ≤ 1
digit-le false = omega arith
digit-le true = omega arith

pub val-high : (p : Bits) → val p < 2 ^ length p
val-high [] = omega arith
val-high (false ∷ p) = omega (arith, val-high p, pow-suc 2 (length p))
val-high (true ∷ p) = omega (arith, val-high p, pow-suc 2 (length p))

pub key-shorter : (p q : Bits) → length p < length q → key p < key q
key-shorter p q h = omega (arith, val-high p, pow_mono h, pow-suc 2 (length p))

-- Where the keys are equal the lengths are, and so are the strings.
key-length-le : (p q : Bits) → key p ≡ key q → length p ≤ length q
key-length-le p q e = go (dec_lt (length q) (length p))
  where
    go : Dec (length q < length p) → length p ≤ length q
    go (yes h) = absurd (omega (arith, key-shorter q p h))
    go (no h) = omega arith

key-length : (p q : Bits) → key p ≡ key q → length p ≡ length q
key-length p q e = omega (arith, key-length-le p q e, key-length-le q p (sym e))

val-one : (p q : Bits) → length p ≡ length q → val p ≡ val q → p ≡ q
val-one [] [] e v = refl
val-one [] (c ∷ q) e v = absurd (omega arith)
val-one (b ∷ p) [] e v = absurd (omega arith)
val-one (false ∷ p) (false ∷ q) e v = let x = val-one p q (omega arith) (omega arith) in cc
val-one (false ∷ p) (true ∷ q) e v = let h : length p ≡ length q = omega arith in absurd (omega (arith, val-high p, ap (λ n. 2 ^ n) h))
val-one (true ∷ p) (false ∷ q) e v = let h : length p ≡ length q = omega arith in absurd (omega (arith, val-high q, ap (λ n. 2 ^ n) h))
val-one (true ∷ p) (true ∷ q) e v = let h : length p ≡ length q = omega arith in let x = val-one p q h (omega (arith, ap (λ n. 2 ^ n) h)) in cc

pub key_one : (p q : Bits) → key p ≡ key q → p ≡ q
key_one p q e =
    let h = key-length p q e in
    val-one p q h (omega (arith, ap (λ n. 2 ^ n) h))

pub equal-not : (p q : Bits) → (key p ≡ key q → ⊥) → equal p q ≡ false
equal-not p q h = go (equal p q) refl
  where
    go : (b : Bool) → equal p q ≡ b → equal p q ≡ false
    go true e = absurd (h (ap key (equal_is p q e)))
    go false e = e

-- The order is that of the keys.
pub before-key : (p q : Bits) → before p q ≡ ltb (key p) (key q)
unfolding before
before-key p q = go (dec_lt (length p) (length q)) (dec_lt (length q) (length p))
  where
    go : Dec (length p < length q) → Dec (length q < length p) → (ltb (length p) (length q) || (eqb (length p) (length q) && ltb (val p) (val q))) ≡ ltb (key p) (key q)
    go (yes h) k = rw (lt-ltb (length p) (length q) h) (sym (lt-ltb (key p) (key q) (key-shorter p q h)))
    go (no h) (yes k) = rw (le-ltb (length p) (length q) (omega arith), ne_eqb (length p) (length q) (omega arith)) (sym (le-ltb (key p) (key q) (omega (arith, key-shorter q p k))))
    go (no h) (no k) =
        let e : length p ≡ length q = omega arith in
        let g : 2 ^ length p ≡ 2 ^ length q = ap (λ n. 2 ^ n) e in
        rw (le-ltb (length p) (length q) (omega arith), eq-eqb (length p) (length q) e)
        (bool_iff (ltb (val p) (val q)) (ltb (key p) (key q)) (λ x. lt-ltb (key p) (key q) (omega (arith, ltb-true (val p) (val q) x))) (λ x. lt-ltb (val p) (val q) (omega (arith, ltb-true (key p) (key q) x))))

pub before-lt : (p q : Bits) → before p q ≡ true → key p < key q
before-lt p q e = ltb-true (key p) (key q) (sym (before-key p q) ∙ e)

pub before-le : (p q : Bits) → before p q ≡ false → key q ≤ key p
before-le p q e = ltb-false (key p) (key q) (sym (before-key p q) ∙ e)

pub lt-before : (p q : Bits) → key p < key q → before p q ≡ true
lt-before p q h = before-key p q ∙ lt-ltb (key p) (key q) h

-- The members ascend, with keys from lo on.
abbrev pub From : ℕ → List Bits → Type 0
From lo [] = Unit {0}
From lo (p ∷ l) = (lo ≤ key p) × From (suc (key p)) l

pub from-weaken : (a b : ℕ) (l : List Bits) → a ≤ b → From b l → From a l
from-weaken a b [] h i = tt
from-weaken a b (p ∷ l) h i = (omega arith, i.1)

pub ascending-from : (l : List Bits) → ascending l ≡ true → From 0 l
ascending-from [] e = tt
ascending-from (p ∷ l) e = (omega arith, go p l e)
  where
    go : (p : Bits) (l : List Bits) → ascending (p ∷ l) ≡ true → From (suc (key p)) l
    go p [] e = tt
    go p (q ∷ l) e = (before-lt p q (and_left (before p q) (ascending (q ∷ l)) e), go q l (and_right (before p q) (ascending (q ∷ l)) e))

pub from-ascending : (lo : ℕ) (l : List Bits) → From lo l → ascending l ≡ true
from-ascending lo [] i = refl
from-ascending lo (p ∷ []) i = refl
from-ascending lo (p ∷ q ∷ l) i = and_both (before p q) (ascending (q ∷ l)) (lt-before p q i.1.0) (from-ascending (suc (key p)) (q ∷ l) i.1)

pub from-not : (lo : ℕ) (q : Bits) (l : List Bits) → From lo l → key q < lo → member q l ≡ false
from-not lo q [] i h = refl
from-not lo q (p ∷ l) i h = simp (equal-not q p (omega arith), from-not (suc (key p)) q l i.1 (omega arith))

-- Two ascending lists with the same members are equal.
heads-le : (x y : Bits) (l m : List Bits) → From (suc (key y)) m → ((q : Bits) → member q (x ∷ l) ≡ member q (y ∷ m)) → key y ≤ key x
heads-le x y l m j h = go (dec_lt (key x) (key y))
  where
    go : Dec (key x < key y) → key y ≤ key x
    go (yes k) = absurd (true≢false (simp (equal-refl, equal-not x y (omega arith), from-not (suc (key y)) x m j (omega arith)) at (h x)))
    go (no k) = omega arith

tails-eq : (x : Bits) (l m : List Bits) → From (suc (key x)) l → From (suc (key x)) m → ((q : Bits) → member q (x ∷ l) ≡ member q (x ∷ m)) → (q : Bits) → member q l ≡ member q m
tails-eq x l m i j h q = go (equal q x) refl
  where
    go : (b : Bool) → equal q x ≡ b → member q l ≡ member q m
    go true e = let k : key q ≡ key x = ap key (equal_is q x e) in from-not (suc (key x)) q l i (omega arith) ∙ sym (from-not (suc (key x)) q m j (omega arith))
    go false e = simp e at (h q)

pub unique : (a b : ℕ) (l m : List Bits) → From a l → From b m → ((q : Bits) → member q l ≡ member q m) → l ≡ m
unique a b [] [] i j h = refl
unique a b [] (y ∷ m) i j h = absurd (false≢true (simp equal-refl at (h y)))
unique a b (x ∷ l) [] i j h = absurd (true≢false (simp equal-refl at (h x)))
unique a b (x ∷ l) (y ∷ m) i j h =
    let e : x ≡ y = key_one x y (omega (arith, heads-le x y l m j.1 h, heads-le y x m l i.1 (λ q. sym (h q)))) in
    let k : From (suc (key x)) m = rw e j.1 in
    let t : l ≡ m = unique (suc (key x)) (suc (key x)) l m i.1 k (tails-eq x l m i.1 k (λ q. h q ∙ ap (λ z. equal q z || member q m) (sym e))) in
    cc

-- Insertion at its place.
or_swap : (x y z : Bool) → (x || (y || z)) ≡ (y || (x || z))
or_swap true y z = sym (or-true y)
or_swap false y z = refl

or-twice : (x y : Bool) → (x || (x || y)) ≡ (x || y)
or-twice true y = refl
or-twice false y = refl

pub member-insert_in : (q n : Bits) (l : List Bits) → member q (insert_in n l) ≡ (equal q n || member q l)
member-insert_in q n [] = refl
member-insert_in q n (m ∷ l) = go (member-insert_in q n l) (before n m) (equal n m) refl
  where
    go : member q (insert_in n l) ≡ (equal q n || member q l) → (b c : Bool) → equal n m ≡ c → member q (cond b (n ∷ m ∷ l) (cond c (m ∷ l) (m ∷ insert_in n l))) ≡ (equal q n || (equal q m || member q l))
    go ih true c e = refl
    go ih false true e = rw (equal_is n m e) (sym (or-twice (equal q m) (member q l)))
    go ih false false e = ap (λ z. equal q m || z) ih ∙ or_swap (equal q m) (equal q n) (member q l)

pub from-insert_in : (lo : ℕ) (n : Bits) (l : List Bits) → lo ≤ key n → From lo l → From lo (insert_in n l)
from-insert_in lo n [] h i = (h, tt)
from-insert_in lo n (m ∷ l) h i = go (before n m) refl (equal n m) refl (λ k. from-insert_in (suc (key m)) n l k i.1)
  where
    later : before n m ≡ false → equal n m ≡ false → key m < key n
    later e f = go' (dec_lt (key m) (key n))
      where
        go' : Dec (key m < key n) → key m < key n
        go' (yes k) = k
        go' (no k) = absurd (true≢false (sym (equal-refl m) ∙ ap (λ z. equal z m) (sym (key_one n m (omega (arith, before-le n m e)))) ∙ f))

    go : (b : Bool) → before n m ≡ b → (c : Bool) → equal n m ≡ c → (suc (key m) ≤ key n → From (suc (key m)) (insert_in n l)) → From lo (cond b (n ∷ m ∷ l) (cond c (m ∷ l) (m ∷ insert_in n l)))
    go true e c f ih = (h, (before-lt n m e, i.1))
    go false e true f ih = i
    go false e false f ih = (i.0, ih (later e f))

pub member-in_order : (q : Bits) (l : List Bits) → member q (in_order l) ≡ member q l
member-in_order q [] = refl
member-in_order q (n ∷ l) = member-insert_in q n (in_order l) ∙ simp (member-in_order q l)

pub from-in_order : (l : List Bits) → From 0 (in_order l)
from-in_order [] = tt
from-in_order (n ∷ l) = from-insert_in 0 n (in_order l) (omega arith) (from-in_order l)
