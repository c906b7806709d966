-- Taking a path out of a trie in the middle of the used words: what is asked, what is found at a node, where the rest begins.
use Rattle.std.specs.Prelude.{◌≡◌, Bool, cond, List, ◌∷◌, ℕ, ◌+◌, ◌-◌, ◌≤◌, ◌<◌, eqb, length}
use Rattle.nets.specs.Bits.{Bits}
use Rattle.nets.specs.Tries.{Trie, none, node, leaf, size, side}
use Rattle.nets.specs.TrieOps.{remove_t}
use Rattle.nets.specs.Networks.{bits_left}
use Rattle.nets.specs.declared.PrefixBits.{PrefixBits}
use Rattle.nodes.specs.Segments.{Segment, Branch}
use Rattle.trie_remove.specs.declared.Child.{Child}
use Rattle.trie_remove.specs.declared.Step.{Step}
use Rattle.trie_remove.specs.declared.Step.TheVariants.{Nothing, Full, Inner}

-- a trie stands from node i up to node e, the nodes from `from` on may go with it, and there is room for what is left of it without the path p
pub record Removable (w : List ℕ) (b from i e u : ℕ) (p : Bits) : Type 0 where
  pub t : Trie
  pub rest : List ℕ
  pub here : Segment w b i e u t rest
  pub one : 1 ≤ from
  pub above : from ≤ i
  pub room : b + (u - 1) + size (remove_t p t) ≤ length w + size t

-- where the trie begins that is left at node i: where it is none, the nodes from `from` on are gone too
unfoldable pub begin : ℕ → ℕ → Trie → ℕ
begin from i none = from
begin from i (node l r) = i

-- the child of node i on the side of the bit, where the first child ends at m and the node at e
abbrev pub child_of : Bool → ℕ → ℕ → ℕ → Child
child_of bit i m e = record { first = side bit (i + 1) m; end = side bit m e; others = side bit (e - m) (m - (i + 1)) }

-- the first of the nodes that go where nothing is left of the child c: those above it too where it has no other beside it
abbrev pub above_of : ℕ → Child → ℕ
above_of from c = cond (eqb c.others 0) from c.first

-- the nodes of a trie with n nodes below its root: none where there are none
abbrev pub rooted : ℕ → ℕ
rooted n = cond (eqb n 0) 0 (n + 1)

-- an inner node, the next bit, the child on its side and the bits behind it
pub record Inside (s : PrefixBits) (i e : ℕ) (t : Trie) (bit : Bool) (c : Child) (later : PrefixBits) : Type 0 where
  pub m : ℕ
  pub branch : Branch i m t
  pub bits : bits_left s ≡ bit ∷ bits_left later
  pub fewer : s.len ≡ later.len + 1
  pub child : c ≡ child_of bit i m e

-- what a step down the path s says of the trie t that stands from node i up to node e
abbrev pub Says : Step → PrefixBits → ℕ → ℕ → Trie → Type 0
Says Nothing s i e t = remove_t (bits_left s) t ≡ none
Says Full s i e t = (t ≡ leaf) × (0 < s.len)
Says (Inner bit c later) s i e t = Inside s i e t bit c later
