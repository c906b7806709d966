-- A trie in the middle of the used words. Nodes are numbered from 1, node i stands at place b i.
use Rattle.std.specs.Prelude.{◌≡◌, false, cond, List, ◌++◌, ℕ, zero, suc, ◌+◌, ◌≤◌, ◌<◌, length}
use Rattle.nets.specs.Tries.{Trie, none, node, size, bare}
use Rattle.nodes.specs.Words.{put, Has, place, enc}
use Rattle.nodes.specs.declared.steps.View.{View}
use Rattle.nodes.specs.declared.steps.View.TheVariants.{Nothing, Leaf, Inner}

-- the trie t stands from node i up to node e, and rest behind it up to node u; the numbers are small
pub record Segment (w : List ℕ) (b i e u : ℕ) (t : Trie) (rest : List ℕ) : Type 0 where
  pub has : Has w (place b i) (enc t ++ rest)
  pub one : 1 ≤ i
  pub end : e ≡ i + size t
  pub used : u ≡ e + length rest
  pub few : u < 1073741824
  pub low : b < 1073741824

-- t is written from node i on, with rest behind it, and ends at node e
pub record Spliced (w v : List ℕ) (b i e : ℕ) (t : Trie) (rest : List ℕ) : Type 0 where
  pub wrote : v ≡ put w (place b i) (enc t ++ rest)
  pub end : e ≡ i + size t

-- where the second child of node i begins, or would, by the distance x to it and the node's end e
abbrev pub middle_of : ℕ → ℕ → ℕ → ℕ
middle_of zero i e = e
middle_of (suc x) i e = i + suc x

-- what is seen of the trie t at its root, node i
unfoldable pub view_of : ℕ → Trie → View
view_of i none = Nothing
view_of i (node l r) = cond (bare l r) Leaf (Inner (i + 1 + size l))

-- v is what is seen of whatever trie stands from node i up to node e
abbrev pub Views : List ℕ → ℕ → ℕ → ℕ → View → Type 0
Views w b i e v = (t : Trie) (rest : List ℕ) (u : ℕ) → Segment w b i e u t rest → v ≡ view_of i t

-- the trie t at node i is an inner node with the children l and r, and the second begins at node m, or would
pub record Branch (i m : ℕ) (t : Trie) : Type 0 where
  pub l : Trie
  pub r : Trie
  pub is : t ≡ node l r
  pub inner : bare l r ≡ false
  pub middle : m ≡ i + 1 + size l
