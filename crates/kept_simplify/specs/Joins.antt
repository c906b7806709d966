-- Where halves join first: at a branch point over two members that have one bit more.
--
--   is_join f w b j        node j is such a branch point: its first child is two behind it, and the next two heads are those of members with one bit more
--   Apart f w b k e r     no node from k up to r, before node e, is one
use Rattle.std.specs.Prelude.{Bool, false, ◌&&◌, List, ◌≡◌, ℕ, ◌+◌, ◌≤◌, ◌<◌, eqb}
use Rattle.kept_nodes.specs.Parse.{head_at, len_at, dist_at}

unfoldable pub is_join : ℕ → List ℕ → ℕ → ℕ → Bool
is_join f w b j = eqb (dist_at f w b j) 2 && (eqb (head_at f w b (j + 1)) (len_at f w b j + 1) && eqb (head_at f w b (j + 2)) (len_at f w b j + 1))

pub record Apart (f : ℕ) (w : List ℕ) (b k e r : ℕ) : Type 0 where
  pub no : (j : ℕ) → k ≤ j → j < r → j + 2 < e → is_join f w b j ≡ false
