-- Codes that no entry of the table parts from each other are of one kind: a test that is computed, from a first code up to a last that is not one of them.
use mathlib.Core.Bool.{Bool, true, false, cond, ◌&&◌, and-false, false≢true}
use mathlib.Core.List.{List, [], ◌∷◌}
use mathlib.Core.Path.{◌≡◌, refl, sym}
use Prim.Native.Nat.{ℕ, ◌+◌, ◌≤◌, ◌<◌}
use native.Mathlib.Omega.{arith}
use lib.Dec.{leb, ltb}
use borrow.Author.Tests.{leb-true, leb-false, le-leb, lt-leb, ltb-true, ltb-false}
use Rattle.calls_kinds.specs.Kinds.{Codes, table, kind_in, kind_of}
use Rattle.calls_kinds.specs.declared.Kind.{Kind}

-- the first entry that has a code from lo up to hi has them all
unfoldable pub whole : List Codes → ℕ → ℕ → Bool
whole [] lo hi = true
whole (x ∷ xs) lo hi = cond (ltb x.first hi && leb lo x.last) (leb x.first lo && leb hi (x.last + 1)) (whole xs lo hi)

entry : (f l lo hi k : ℕ) (a b d : Kind) (t p q r s : Bool) → lo ≤ k → k < hi
    → ltb f hi ≡ p → leb lo l ≡ q → leb f lo ≡ r → leb hi (l + 1) ≡ s → (t ≡ true → b ≡ d)
    → cond (p && q) (r && s) t ≡ true → cond (leb f k && leb k l) a b ≡ cond (leb f lo && leb lo l) a d
entry f l lo hi k a b d t true true true true h i ep eq er es ih e =
    rw (le-leb f k (omega (arith, leb-true f lo er)), le-leb k l (omega (arith, leb-true hi (l + 1) es)), er, eq)
entry f l lo hi k a b d t true true true false h i ep eq er es ih e = absurd (false≢true e)
entry f l lo hi k a b d t true true false s h i ep eq er es ih e = absurd (false≢true e)
entry f l lo hi k a b d t true false r s h i ep eq er es ih e = rw (lt-leb k l (omega (arith, leb-false lo l eq)), eq, and-false, and-false) (ih e)
entry f l lo hi k a b d t false q r s h i ep eq er es ih e =
    rw (lt-leb f k (omega (arith, ltb-false f hi ep)), lt-leb f lo (omega (arith, ltb-false f hi ep))) (ih e)

kind_in-whole : (xs : List Codes) (lo hi k : ℕ) → lo ≤ k → k < hi → whole xs lo hi ≡ true → kind_in xs k ≡ kind_in xs lo
unfolding whole kind_in
kind_in-whole [] lo hi k h i e = refl
kind_in-whole (x ∷ xs) lo hi k h i e =
    entry x.first x.last lo hi k x.kind (kind_in xs k) (kind_in xs lo) (whole xs lo hi)
    (ltb x.first hi) (leb lo x.last) (leb x.first lo) (leb hi (x.last + 1)) h i refl refl refl refl (kind_in-whole xs lo hi k h i) e

-- the kind of the codes from lo up to hi is that of lo
pub kind_of-from : (lo hi k : ℕ) → whole table lo hi ≡ true → lo ≤ k → k < hi → kind_of lo ≡ kind_of k
unfolding kind_of
kind_of-from lo hi k e h i = sym (kind_in-whole table lo hi k h i e)

-- a code that is not the least
pub beyond : {n k : ℕ} → n ≤ k → (k ≡ n → ⊥) → n + 1 ≤ k
beyond h d = omega arith

pub below_or : {A : Type 0} (n k : ℕ) → (k < n → A) → (n ≤ k → A) → A
below_or {A} n k f g = go (ltb k n) refl
  where
    go : (t : Bool) → ltb k n ≡ t → A
    go true q = f (ltb-true k n q)
    go false q = g (ltb-false k n q)
