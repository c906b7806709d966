-- The node whose child is next, in a turn of the check: its number is up, and 0 before the root.
use Rattle.std.specs.Prelude.{Bool, cond, List, [], ◌≡◌, ℕ, ◌≤◌, eqb}
use Rattle.nets.specs.Bits.{Bits}
use Rattle.nets.specs.Networks.{width}
use Rattle.trie_paths.specs.Spans.{snoc}
use Rattle.kept_nodes.specs.Parse.{len_at, string_at}

-- the string below which its child stands, on the side of the bit
unfoldable pub below : ℕ → List ℕ → ℕ → ℕ → Bool → Bits
below f w b up c = cond (eqb up 0) [] (snoc (string_at f w b up) c)

-- it is a node, with a string of the family
pub record Above (f : ℕ) (w : List ℕ) (b n up : ℕ) : Type 0 where
  pub within : up ≤ n
  pub short : (up ≡ 0 → ⊥) → len_at f w b up ≤ width f
