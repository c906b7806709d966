-- The next member of the same length.
--
--   InLane f w b i k d r    node r is the last before node k, of those from node i on, that is a member with d bits
--   Behind f w b i e t n r  node r, from i up to e, has the network that follows n in the list of t
use Rattle.std.specs.Prelude.{List, ◌≡◌, ℕ, ◌≤◌, ◌<◌}
use Rattle.nets.specs.Lists.{past}
use Rattle.nets.specs.Networks.{net_bits}
use Rattle.nets.specs.Tries.{Trie}
use Rattle.nets.specs.declared.Net.{Net}
use Rattle.address_order.specs.Streams.{flat}
use Rattle.kept_nodes.specs.Parse.{head_at, net_at}
use Rattle.kept_next.specs.Nearest.{First}

pub record InLane (f : ℕ) (w : List ℕ) (b i k d r : ℕ) : Type 0 where
  pub from : i ≤ r
  pub to : r < k
  pub head : head_at f w b r ≡ d
  pub others : (j : ℕ) → r < j → j < k → head_at f w b j ≡ d → ⊥

pub record Behind (f : ℕ) (w : List ℕ) (b i e : ℕ) (t : Trie) (n : Net) (r : ℕ) : Type 0 where
  pub from : i ≤ r
  pub to : r < e
  pub first : First f (past (net_bits n)) (flat t) (net_at f w b r)
