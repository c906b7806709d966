-- A trie that is read where it stands, whatever is behind it.
use Rattle.std.specs.Prelude.{◌≡◌, Bool, List, [], ◌∷◌, ◌++◌, ℕ, suc, ◌+◌, ◌≤◌, length}
use Rattle.nets.specs.Bits.{Bits}
use Rattle.nets.specs.Tries.{Trie, levels}
use Rattle.nets.specs.Networks.{width, net_from}
use Rattle.nets.specs.declared.Net.{Net}
use Rattle.nodes.specs.Segments.{Segment}

-- the path p with one bit more behind it
abbrev pub snoc : Bits → Bool → Bits
snoc p b = p ++ (b ∷ [])

-- the trie t stands from node i up to node e
pub record Spans (w : List ℕ) (b i e : ℕ) (t : Trie) : Type 0 where
  pub u : ℕ
  pub rest : List ℕ
  pub is : Segment w b i e u t rest

-- and its members are networks of the family f
pub record Holds (w : List ℕ) (b i e f : ℕ) (t : Trie) : Type 0 where
  pub stands : Spans w b i e t
  pub deep : levels t ≤ suc (width f)

-- it is a part of such a trie: its root has the path p, and x is the network of p
pub record Located (w : List ℕ) (b i e : ℕ) (x : Net) (f : ℕ) (p : Bits) (t : Trie) : Type 0 where
  pub stands : Spans w b i e t
  pub path : x ≡ net_from f p
  pub deep : length p + levels t ≤ suc (width f)
