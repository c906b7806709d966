-- The networks that reading gives, as strings of nodes.
use Rattle.std.specs.Prelude.{List, ◌≡◌, ℕ, ◌+◌, ◌%◌, ◌<◌, ◌^◌, get_or}
use Rattle.nets.specs.Networks.{refusal_of}
use Rattle.nets.specs.declared.Net.{Net}
use Rattle.kept_nodes.specs.Words.{spot}
use Rattle.kept_nodes.specs.Parse.{net_found, net_at, Small}

-- a string of a node: no refusal applies to it, and its low word is one of 64 bits
pub record IsString (n : Net) : Type 0 where
  pub net : refusal_of n ≡ 0
  pub low : n.lo < 2 ^ 64

-- two of one family
pub record Both (p q : Net) : Type 0 where
  pub family : p.family ≡ q.family
  pub first : IsString p
  pub second : IsString q

-- r is what the words from p on say, and its address words are of 32 bits
pub record FoundAs (f : ℕ) (w : List ℕ) (p : ℕ) (r : Net) : Type 0 where
  pub is : r ≡ net_found f w (p + 1) (get_or w p 0 % 256)
  pub small : Small f w (p + 1)

-- r is what the words of node i say
pub record ReadAs (f : ℕ) (w : List ℕ) (b i : ℕ) (r : Net) : Type 0 where
  pub is : r ≡ net_at f w b i
  pub small : Small f w (spot f b i + 1)
