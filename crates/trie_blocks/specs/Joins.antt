-- Where halves join.
--
--   Apart w b k e r     no node from k up to r, before node e, is one over two leaves: such a node has the word 5, and its second leaf stands two behind it
use Rattle.std.specs.Prelude.{List, ◌≡◌, ℕ, ◌+◌, ◌≤◌, ◌<◌}
use Rattle.nodes.specs.Words.{word_at}

pub record Apart (w : List ℕ) (b k e r : ℕ) : Type 0 where
  pub no : (j : ℕ) → k ≤ j → j < r → j + 2 < e → word_at w b j ≡ 5 → word_at w b (j + 2) ≡ 0 → ⊥
