-- A source of a set operation in the second form: the trie below a string p, which a number means. The number of a node means the trie below p also where p ends in
-- the middle of the
-- node's edge; so the numbers of a recursion that goes down bit by bit are those of the first form, with p beside them.
use Rattle.std.specs.Prelude.{List, ◌⊎◌, ℕ, ◌+◌, ◌≤◌}
use Rattle.nets.specs.Bits.{Bits}
use Rattle.nets.specs.Tries.{Trie, none, node, leaf}
use Rattle.trie_emit.specs.Combine.{all}
use Rattle.branch_points.specs.KeptTries.{kept_size}
use Rattle.kept_nodes.specs.Parse.{KeptStands}

-- the trie t below p stands at node i, before or behind the nodes from o up to g
pub record KeptHere (f : ℕ) (w : List ℕ) (b n o g : ℕ) (p : Bits) (i : ℕ) (t : Trie) : Type 0 where
  pub stands : KeptStands f w b n p i t
  pub one : 1 ≤ i
  pub clear : (i + kept_size t ≤ o) ⊎ (g ≤ i)

pub data KeptMeans (f : ℕ) (w : List ℕ) (b n o g : ℕ) (p : Bits) : ℕ → Trie → Type 0 where
  nothing : KeptMeans f w b n o g p 0 none
  everything : KeptMeans f w b n o g p all leaf
  standing : {i : ℕ} {l r : Trie} → KeptHere f w b n o g p i (node l r) → KeptMeans f w b n o g p i (node l r)
