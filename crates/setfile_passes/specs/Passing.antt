-- The networks of a file into a trie in words, or out of it, from a path on: what each pass asks.
--
--   Counts w b i e d c s q p u ms t    the numbers i and e mean the trie t, and s is at the networks u of the file d below the same path p
--   Cuts, Fills                        what cutting the trie t, and writing what it becomes, ask
use Rattle.std.specs.Prelude.{◌≡◌, Bool, List, [], ℕ, ◌+◌, ◌*◌, ◌≤◌, ◌<◌}
use Rattle.nets.specs.Bits.{Bits}
use Rattle.nets.specs.Tries.{Trie, size, levels}
use Rattle.nodes.specs.Segments.{Segment}
use Rattle.trie_pour.specs.Pour.{pour_t, cut_t}
use Rattle.trie_pour.specs.Parts.{Part, Room}
use Rattle.setfile_below.specs.Stream.{At}
use Rattle.setfile_below.specs.declared.Below.{Below}

-- few: no number of nodes wraps
abbrev pub few : Trie → Trie → Type 0
few t u = size t + 2 * size u < 4611686018427387904

pub record Counts (w : List ℕ) (b i e : ℕ) (d c : List ℕ) (s : Below) (q p : Bits) (u : Trie) (ms : List Bits) (t : Trie) : Type 0 where
  pub part : Part w b i e t
  pub at : At d c s q p u ms
  pub few : few t u

-- node o is not behind node i, so what is written never comes before what is still to be read
pub record Cuts (w : List ℕ) (b i e o : ℕ) (d c : List ℕ) (s : Below) (q p : Bits) (u : Trie) (ms : List Bits) (t : Trie) : Type 0 where
  pub here : Segment w b i e e t []
  pub one : 1 ≤ o
  pub behind : o ≤ i
  pub at : At d c s q p u ms
  pub few : few t u

-- what is written ends no later than what is read; and what is read has been cut, so that this holds of each half too
pub record Fills (w : List ℕ) (b i e o : ℕ) (x : Bool) (u t : Trie) : Type 0 where
  pub part : Part w b i e t
  pub room : Room w b o (size (pour_t x u t))
  pub low : o + levels u < 2147483648
  pub ahead : i < e → o + size (pour_t x u t) ≤ e
  pub from : Trie
  pub cut : i < e → t ≡ cut_t x u from
