-- A write of a list is a paste of it, so a block that the library moves is one write of it. Assumes nothing.
use mathlib.Core.Path.{◌≡◌, refl, sym, ap}
use mathlib.Core.List.{List, [], ◌∷◌, ◌++◌}
use Prim.Native.Nat.{ℕ, zero, suc, ◌+◌, ◌-◌, ◌≤◌}
use native.Mathlib.Nat.{suc-add, zero-add}
use native.Mathlib.Omega.{arith}
use lib.ListN.{length, take, drop, length-drop}
use lib.Seq.{length-take-le}
use Rattle.std.specs.List.{copy_within}
use Rattle.nodes.specs.Words.{put}

put_pasted : (w : List ℕ) (p : ℕ) (xs : List ℕ) → p + length xs ≤ length w → put w p xs ≡ (take p w ++ xs) ++ drop (p + length xs) w
unfolding put
put_pasted [] zero [] h = refl
put_pasted [] zero (x ∷ xs) h = absurd (omega arith)
put_pasted [] (suc p) xs h = absurd (omega arith)
put_pasted (y ∷ w) (suc p) xs h = rw suc-add (ap (λ l. y ∷ l) (put_pasted w p xs (omega arith)))
put_pasted (y ∷ w) zero [] h = refl
put_pasted (y ∷ w) zero (x ∷ xs) h = rw zero-add (ap (λ l. x ∷ l) (rw zero-add at (put_pasted w zero xs (omega arith))))

pub copy_put : (w : List ℕ) (from to n : ℕ) → from + n ≤ length w → to + n ≤ length w → copy_within w from (from + n) to ≡ put w to (take n (drop from w))
copy_put w from to n g h =
    let e : from + n - from ≡ n = omega arith in
    let l : length (take n (drop from w)) ≡ n = length-take-le n (drop from w) (omega (arith, length-drop from w)) in
    rw e (rw l at (sym (put_pasted w to (take n (drop from w)) (omega arith))))
