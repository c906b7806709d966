-- A list of networks as rows of numbers, three for each: high word, low word, length.
use Rattle.std.specs.Prelude.{List, [], ◌∷◌, ◌++◌, ℕ}
use Rattle.nets.specs.Bits.{Bits}
use Rattle.nets.specs.Networks.{net_from}
use Rattle.nets.specs.declared.Net.{Net}

abbrev pub row_of : Net → List ℕ
row_of n = n.hi ∷ n.lo ∷ n.len ∷ []

unfoldable pub rows_of : ℕ → List Bits → List ℕ
rows_of f [] = []
rows_of f (p ∷ l) = row_of (net_from f p) ++ rows_of f l
