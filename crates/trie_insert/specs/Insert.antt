-- Putting the path p into the trie that stands from node i up to node e in the used words.
use Rattle.std.specs.Prelude.{◌≡◌, List, ℕ, ◌+◌, ◌-◌, ◌≤◌, length}
use Rattle.nets.specs.Bits.{Bits}
use Rattle.nets.specs.Tries.{Trie, size, insert_t}
use Rattle.nodes.specs.Segments.{Segment, Spliced}

-- some trie stands there
pub record Held (w : List ℕ) (b i e : ℕ) : Type 0 where
  pub t : Trie
  pub rest : List ℕ
  pub u : ℕ
  pub stands : Segment w b i e u t rest

-- the words up to node u are in use, and there is room for the trie with p in it
pub record Insertable (w : List ℕ) (b i e u : ℕ) (p : Bits) : Type 0 where
  pub t : Trie
  pub rest : List ℕ
  pub stands : Segment w b i e u t rest
  pub room : b + (u - 1) + size (insert_t p t) ≤ length w + size t

-- with p in it the trie has n nodes
abbrev pub InsertSize : List ℕ → ℕ → ℕ → ℕ → Bits → ℕ → Type 0
InsertSize w b i e p n = (t : Trie) (rest : List ℕ) (u : ℕ) → Segment w b i e u t rest → n ≡ size (insert_t p t)

-- p is in it now, and it ends at node r
abbrev pub Inserted : List ℕ → List ℕ → ℕ → ℕ → ℕ → ℕ → Bits → ℕ → Type 0
Inserted w v b i e u p r = (t : Trie) (rest : List ℕ) → Segment w b i e u t rest → Spliced w v b i r (insert_t p t) rest
