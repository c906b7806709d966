-- Bytes for as long as a test holds of them.
--
--   all_of f s          f holds of every byte of s
--   starts_of f s       there is a first byte, and f holds of it
--   leading_of f s      the bytes that s begins with for as long as f holds;  behind_of f s: what follows them
use Rattle.std.specs.Prelude.{Bool, true, false, cond, ◌&&◌, List, [], ◌∷◌, ℕ}

unfoldable pub all_of : (ℕ → Bool) → List ℕ → Bool
all_of f [] = true
all_of f (c ∷ s) = f c && all_of f s

unfoldable pub starts_of : (ℕ → Bool) → List ℕ → Bool
starts_of f [] = false
starts_of f (c ∷ s) = f c

unfoldable pub leading_of : (ℕ → Bool) → List ℕ → List ℕ
leading_of f [] = []
leading_of f (c ∷ s) = cond (f c) (c ∷ leading_of f s) []

unfoldable pub behind_of : (ℕ → Bool) → List ℕ → List ℕ
behind_of f [] = []
behind_of f (c ∷ s) = cond (f c) (behind_of f s) (c ∷ s)
