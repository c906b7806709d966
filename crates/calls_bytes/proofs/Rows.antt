-- The loops over the tails. What is still to be written completes the whole, K: `onward` is one turn of any of them, `ended` its end; the others say how each row goes on.
use mathlib.Core.List.{List, [], ◌∷◌, ◌++◌}
use mathlib.Core.Path.{◌≡◌, refl, sym, ap, ◌∙◌}
use Prim.Native.Nat.{ℕ, zero, suc, ◌+◌, ◌-◌, ◌≤◌}
use native.Mathlib.Omega.{arith}
use lib.ListN.{length, get_or, take, drop, replicate, length-drop}
use lib.Seq.{take_all}
use Rattle.nodes.specs.Words.{put}
use Rattle.nodes.proofs.Put.{put-nil, put-behind-at}
use Rattle.calls_bytes.specs.Bytes.{u32_at}
use Rattle.calls_bytes.specs.Tails.{words_from, numbers_from, row_bytes}

pub onward : (v : List ℕ) (o o' : ℕ) (xs ys zs : List ℕ) {u K : List ℕ} → zs ≡ xs ++ ys → put v o zs ≡ K → u ≡ put v o xs → o' ≡ o + length xs → put u o' ys ≡ K
onward v o o' xs ys zs e f g h = rw (g, put-behind-at v o o' xs ys h, ← e) f

pub ended : (v : List ℕ) (o : ℕ) (zs : List ℕ) {K : List ℕ} → zs ≡ [] → put v o zs ≡ K → v ≡ K
ended v o zs e f = sym (put-nil v o) ∙ rw (← e) f

-- writes past the end are dropped
pub put-past : (w : List ℕ) (p : ℕ) (xs : List ℕ) → length w ≤ p → put w p xs ≡ w
unfolding put
put-past [] p xs h = refl
put-past (y ∷ w) zero xs h = absurd (omega arith)
put-past (y ∷ w) (suc p) xs h = rw (put-past w p xs (omega arith))

-- the rows, one number on: m is how many are left, n how many then
pub words_from-on : (w : List ℕ) (p q m n : ℕ) → m ≡ suc n → q ≡ p + 1 → words_from w p m ≡ get_or w p 0 ∷ words_from w q n
unfolding words_from
words_from-on w p q m n e f = rw (e, f)

pub numbers_from-on : (s : List ℕ) (p q m n : ℕ) → m ≡ suc n → q ≡ p + 4 → numbers_from s p m ≡ u32_at s p ∷ numbers_from s q n
unfolding numbers_from
numbers_from-on s p q m n e f = rw (e, f)

pub words_from-none : (w : List ℕ) (p m : ℕ) → m ≡ 0 → words_from w p m ≡ []
unfolding words_from
words_from-none w p m e = rw e

pub numbers_from-none : (s : List ℕ) (p m : ℕ) → m ≡ 0 → numbers_from s p m ≡ []
unfolding numbers_from
numbers_from-none s p m e = rw e

pub row_bytes-on : (f : ℕ → List ℕ) (w : List ℕ) (p q m n : ℕ) → m ≡ suc n → q ≡ p + 1 → row_bytes f (words_from w p m) ≡ f (get_or w p 0) ++ row_bytes f (words_from w q n)
unfolding row_bytes
row_bytes-on f w p q m n e g = rw (words_from-on w p q m n e g)

pub row_bytes-none : (f : ℕ → List ℕ) (w : List ℕ) (p m : ℕ) → m ≡ 0 → row_bytes f (words_from w p m) ≡ []
unfolding row_bytes
row_bytes-none f w p m e = rw (words_from-none w p m e)

-- a fill of so many in the place of as many is one write of them
pub filled : (w : List ℕ) (p n x : ℕ) → p + n ≤ length w → take p w ++ (replicate n x ++ drop n (drop p w)) ≡ put w p (replicate n x)
unfolding put
filled [] zero zero x h = refl
filled [] zero (suc n) x h = absurd (omega arith)
filled [] (suc p) n x h = absurd (omega arith)
filled (y ∷ w) (suc p) n x h = ap (λ l. y ∷ l) (filled w p n x (omega arith))
filled (y ∷ w) zero zero x h = refl
filled (y ∷ w) zero (suc n) x h = ap (λ l. x ∷ l) (filled w zero n x (omega arith))

-- a part that goes to the end
pub rest-is : (s : List ℕ) (p : ℕ) → take (length s - p) (drop p s) ≡ drop p s
rest-is s p = take_all (length s - p) (drop p s) (rw length-drop (omega arith))

-- what has been written over the beginning is read there
pub take_put : (w xs : List ℕ) (n : ℕ) → length xs ≡ n → n ≤ length w → take n (put w 0 xs) ≡ xs
unfolding put
take_put [] [] zero e h = refl
take_put (y ∷ w) [] zero e h = refl
take_put w [] (suc n) e h = absurd (omega arith)
take_put w (x ∷ xs) zero e h = absurd (omega arith)
take_put [] (x ∷ xs) (suc n) e h = absurd (omega arith)
take_put (y ∷ w) (x ∷ xs) (suc n) e h = rw (take_put w xs n (omega arith) (omega arith))

pub length-numbers_from : (s : List ℕ) (p n : ℕ) → length (numbers_from s p n) ≡ n
unfolding numbers_from
length-numbers_from s p zero = refl
length-numbers_from s p (suc n) = rw (length-numbers_from s (p + 4) n)

pub take-numbers : (w s : List ℕ) (p n : ℕ) {v : List ℕ} → v ≡ put w 0 (numbers_from s p n) → n ≤ length w → take n v ≡ numbers_from s p n
take-numbers w s p n e h = rw e (take_put w (numbers_from s p n) n (length-numbers_from s p n) h)

pub count-numbers : (w s : List ℕ) (p n : ℕ) {v : List ℕ} → v ≡ put w 0 (numbers_from s p n) → n ≤ length w → n ≡ length (take n v)
count-numbers w s p n e h = sym (rw (take-numbers w s p n e h) (length-numbers_from s p n))
