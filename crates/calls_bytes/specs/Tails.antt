-- Numbers in the tails of calls and answers.
--
--   words_from w p n      n words of w from number p on; words past the end are 0
--   numbers_from s p n    n numbers of four bytes each that stand in the bytes s from p on
--   row_bytes f xs        the bytes of the numbers xs, those of each as f has them
use Rattle.std.specs.Prelude.{List, [], ◌∷◌, ◌++◌, ℕ, zero, suc, ◌+◌, get_or}
use Rattle.calls_bytes.specs.Bytes.{u32_at}

unfoldable pub words_from : List ℕ → ℕ → ℕ → List ℕ
words_from w p zero = []
words_from w p (suc n) = get_or w p 0 ∷ words_from w (p + 1) n

unfoldable pub numbers_from : List ℕ → ℕ → ℕ → List ℕ
numbers_from s p zero = []
numbers_from s p (suc n) = u32_at s p ∷ numbers_from s (p + 4) n

unfoldable pub row_bytes : (ℕ → List ℕ) → List ℕ → List ℕ
row_bytes f [] = []
row_bytes f (x ∷ xs) = f x ++ row_bytes f xs
