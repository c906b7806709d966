-- What a set operation reads in the second form, and where it writes. The operations are those of the first form, by their numbers.
use Rattle.std.specs.Prelude.{◌≡◌, List, ℕ, suc, ◌+◌, ◌≤◌, length}
use Rattle.nets.specs.Bits.{Bits}
use Rattle.nets.specs.Tries.{Trie, levels}
use Rattle.nets.specs.TrieOps.{mixed, kind_of}
use Rattle.nets.specs.Networks.{width}
use Rattle.branch_points.specs.KeptTries.{kept_size}
use Rattle.kept_nodes.specs.Parse.{KeptRoom}
use Rattle.kept_sources.specs.Sources.{KeptMeans}

-- a and c mean t and u below p, of at most fuel levels, apart from the nodes from o up to e
pub record Inputs (f : ℕ) (w : List ℕ) (b n a c o e : ℕ) (p : Bits) (fuel : ℕ) (t u : Trie) : Type 0 where
  pub hold : KeptRoom f w b n
  pub first : KeptMeans f w b n o e p a t
  pub second : KeptMeans f w b n o e p c u
  pub deep-t : levels t ≤ fuel
  pub deep-u : levels u ≤ fuel
  pub turn : 1 ≤ fuel
  pub short : length p + fuel ≤ suc (width f)

-- the nodes from o up to e are there for the trie x, if it is no single leaf
pub record KeptGap (n o e : ℕ) (x : Trie) : Type 0 where
  pub one : 1 ≤ o
  pub fits : kind_of x ≡ mixed → o + kept_size x ≤ e
  pub room : e ≤ suc n
