-- What simplify reads.
use Rattle.std.specs.Prelude.{List, ℕ, ◌≤◌}
use Rattle.nets.specs.Tries.{Trie, levels}
use Rattle.nodes.specs.Segments.{Segment}

-- the trie t, of at most fuel levels, stands from node i up to node e, and node o is not behind node i
pub record Source (w : List ℕ) (b i e o fuel : ℕ) (t : Trie) : Type 0 where
  pub u : ℕ
  pub rest : List ℕ
  pub here : Segment w b i e u t rest
  pub one : 1 ≤ o
  pub behind : o ≤ i
  pub deep : levels t ≤ fuel
