-- What is left of a member without a network inside it.
--
--   Beside f w b n i p m      there is room from node i on for a branch point with the string p, a member beside it and m nodes more
--   Blocks f w b n i p r q    there is room from node i on for what is left of the member p without the network q, whose bits are p and then r
use Rattle.std.specs.Prelude.{List, [], ◌≡◌, ℕ, suc, ◌+◌, ◌≤◌, ◌<◌, length}
use Rattle.nets.specs.Bits.{Bits}
use Rattle.nets.specs.Networks.{width}
use Rattle.nets.specs.declared.Net.{Net}
use Rattle.nets.specs.Tries.{leaf}
use Rattle.nets.specs.TrieOps.{remove_t}
use Rattle.branch_points.specs.KeptTries.{kept_size}
use Rattle.kept_nodes.specs.Parse.{KeptRoom}
use Rattle.kept_plan.specs.Change.{Way}

pub record Beside (f : ℕ) (w : List ℕ) (b n i : ℕ) (p : Bits) (m : ℕ) : Type 0 where
  pub room : KeptRoom f w b n
  pub one : 1 ≤ i
  pub short : length p < width f
  pub some : 1 ≤ m
  pub fits : i + m + 1 ≤ n

pub record Blocks (f : ℕ) (w : List ℕ) (b n i : ℕ) (p r : Bits) (q : Net) : Type 0 where
  pub room : KeptRoom f w b n
  pub one : 1 ≤ i
  pub way : Way f p r q
  pub more : r ≡ [] → ⊥
  pub fits : i + kept_size (remove_t r leaf) ≤ suc n
