-- Laws of `put`: the length stays, and the laws of two writes ask for nothing. Assumes nothing.
use mathlib.Core.Path.{◌≡◌, refl, sym, ap}
use mathlib.Core.List.{List, [], ◌∷◌, ◌++◌}
use Prim.Native.Nat.{ℕ, zero, suc, ◌+◌, ◌≤◌, ◌<◌}
use native.Mathlib.Nat.{suc-add, zero-add}
use native.Mathlib.Omega.{arith}
use native.Mathlib.Decide.{dec_lt}
use lib.ListN.{length, get_or, set}
use Rattle.nodes.specs.Words.{put}

pub put-nil : (w : List ℕ) (p : ℕ) → put w p [] ≡ w
unfolding put
put-nil [] p = refl
put-nil (y ∷ w) zero = refl
put-nil (y ∷ w) (suc p) = ap (λ l. y ∷ l) (put-nil w p)

pub length-put : (w : List ℕ) (p : ℕ) (xs : List ℕ) → length (put w p xs) ≡ length w
unfolding put
length-put [] p xs = refl
length-put (y ∷ w) (suc p) xs = ap suc (length-put w p xs)
length-put (y ∷ w) zero [] = refl
length-put (y ∷ w) zero (x ∷ xs) = ap suc (length-put w zero xs)

-- one store is a write of one word
pub set-put : (w : List ℕ) (p v : ℕ) → set w p v ≡ put w p (v ∷ [])
unfolding put
set-put [] p v = refl
set-put (y ∷ w) zero v = ap (λ l. v ∷ l) (sym (put-nil w zero))
set-put (y ∷ w) (suc p) v = ap (λ l. y ∷ l) (set-put w p v)

-- a write behind a write, and a write before a write
pub put-behind : (w : List ℕ) (p : ℕ) (xs ys : List ℕ) → put (put w p xs) (p + length xs) ys ≡ put w p (xs ++ ys)
unfolding put
put-behind [] p xs ys = refl
put-behind (y ∷ w) (suc p) xs ys = rw suc-add (ap (λ l. y ∷ l) (put-behind w p xs ys))
put-behind (y ∷ w) zero [] ys = refl
put-behind (y ∷ w) zero (x ∷ xs) ys = rw zero-add (ap (λ l. x ∷ l) (rw zero-add at (put-behind w zero xs ys)))

pub put-before : (w : List ℕ) (p : ℕ) (xs ys : List ℕ) → put (put w (p + length xs) ys) p xs ≡ put w p (xs ++ ys)
unfolding put
put-before [] p xs ys = refl
put-before (y ∷ w) (suc p) xs ys = rw suc-add (ap (λ l. y ∷ l) (put-before w p xs ys))
put-before (y ∷ w) zero [] ys = put-nil _ _
put-before (y ∷ w) zero (x ∷ xs) ys = rw zero-add (ap (λ l. x ∷ l) (rw zero-add at (put-before w zero xs ys)))

-- the same, at a position that is equal
pub put-behind-at : (w : List ℕ) (p q : ℕ) (xs ys : List ℕ) → q ≡ p + length xs → put (put w p xs) q ys ≡ put w p (xs ++ ys)
put-behind-at w p q xs ys e = rw e (put-behind w p xs ys)

pub put-before-at : (w : List ℕ) (p q : ℕ) (xs ys : List ℕ) → q ≡ p + length xs → put (put w q ys) p xs ≡ put w p (xs ++ ys)
put-before-at w p q xs ys e = rw e (put-before w p xs ys)

-- two writes at places that are apart, in either order
pub put-swap : (w : List ℕ) (p q : ℕ) (xs ys : List ℕ) → p + length xs ≤ q → put (put w p xs) q ys ≡ put (put w q ys) p xs
unfolding put
put-swap [] p q xs ys h = refl
put-swap (y ∷ w) p q [] ys h = rw (put-nil (y ∷ w) p, put-nil (put (y ∷ w) q ys) p)
put-swap (y ∷ w) zero zero (x ∷ xs) ys h = absurd (omega arith)
put-swap (y ∷ w) (suc p) zero (x ∷ xs) ys h = absurd (omega arith)
put-swap (y ∷ w) zero (suc q) (x ∷ xs) ys h = ap (λ l. x ∷ l) (put-swap w zero q xs ys (omega arith))
put-swap (y ∷ w) (suc p) (suc q) (x ∷ xs) ys h = ap (λ l. y ∷ l) (put-swap w p q (x ∷ xs) ys (omega arith))

-- what is read after a write: before it, behind it, in it
pub get_or-put-before : (w : List ℕ) (p : ℕ) (xs : List ℕ) (k : ℕ) → k < p → get_or (put w p xs) k 0 ≡ get_or w k 0
unfolding put
get_or-put-before [] p xs k h = refl
get_or-put-before (y ∷ w) zero xs k h = absurd (omega arith)
get_or-put-before (y ∷ w) (suc p) xs zero h = refl
get_or-put-before (y ∷ w) (suc p) xs (suc k) h = get_or-put-before w p xs k (omega arith)

pub get_or-put-behind : (w : List ℕ) (p : ℕ) (xs : List ℕ) (k : ℕ) → p + length xs ≤ k → get_or (put w p xs) k 0 ≡ get_or w k 0
unfolding put
get_or-put-behind [] p xs k h = refl
get_or-put-behind (y ∷ w) p [] k h = rw (put-nil (y ∷ w) p)
get_or-put-behind (y ∷ w) p (x ∷ xs) zero h = absurd (omega arith)
get_or-put-behind (y ∷ w) zero (x ∷ xs) (suc k) h = get_or-put-behind w zero xs k (omega arith)
get_or-put-behind (y ∷ w) (suc p) (x ∷ xs) (suc k) h = get_or-put-behind w p (x ∷ xs) k (omega arith)

pub get_or-put-in : (w : List ℕ) (p : ℕ) (xs : List ℕ) (k : ℕ) → k < length xs → p + k < length w → get_or (put w p xs) (p + k) 0 ≡ get_or xs k 0
unfolding put
get_or-put-in [] p xs k g h = absurd (omega arith)
get_or-put-in (y ∷ w) p [] k g h = absurd (omega arith)
get_or-put-in (y ∷ w) (suc p) (x ∷ xs) k g h = rw suc-add (get_or-put-in w p (x ∷ xs) k g (omega arith))
get_or-put-in (y ∷ w) zero (x ∷ xs) zero g h = refl
get_or-put-in (y ∷ w) zero (x ∷ xs) (suc k) g h = rw zero-add (rw zero-add at (get_or-put-in w zero xs k (omega arith) (omega arith)))

-- a write leaves each place outside
pub get_or-put-out : (w : List ℕ) (p : ℕ) (xs : List ℕ) (k : ℕ) → (p ≤ k → k < p + length xs → ⊥) → get_or (put w p xs) k 0 ≡ get_or w k 0
get_or-put-out w p xs k f = go (dec_lt k p)
  where
    far : (p ≤ k) → Dec (k < p + length xs) → get_or (put w p xs) k 0 ≡ get_or w k 0
    far g (yes h) = absurd (f g h)
    far g (no h) = get_or-put-behind w p xs k (omega arith)

    go : Dec (k < p) → get_or (put w p xs) k 0 ≡ get_or w k 0
    go (yes h) = get_or-put-before w p xs k h
    go (no h) = far (omega arith) (dec_lt k (p + length xs))
