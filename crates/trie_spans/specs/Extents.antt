-- Tries by where they begin and end, and what is written of a result, told by its nodes.
--
--   Span w b o g i e t                  the trie t stands from node i up to node e, apart from the nodes from o up to g; an empty one may stand anywhere
--   Extents w b a ea c ec o g fuel t u  what an operation reads: t and u by their ends, of at most fuel levels
--   last_ahead x                         the distance to the last child of a node with the word x
--   tidy j t                            t, with the halves of each block joined or not
--   Writes w v b o n t                  t has n nodes, and v is w with what is written of it from node o on: all, but for a single leaf
use Rattle.std.specs.Prelude.{Bool, false, cond, List, [], ◌∷◌, ◌≡◌, ℕ, ◌+◌, ◌*◌, ◌/◌, ◌≤◌, ◌<◌, ◌^◌, eqb, ltb, length}
use Rattle.nets.specs.Tries.{Trie, size, levels, is_none, side, simplify_t}
use Rattle.nodes.specs.Words.{put, place}
use Rattle.trie_emit.specs.Answers.{answer, body, Pending}
use Rattle.trie_emit.specs.Combine.{Here}

pub record Span (w : List ℕ) (b o g i e : ℕ) (t : Trie) : Type 0 where
  pub here : is_none t ≡ false → Here w b o g i t
  pub end : e ≡ i + size t

-- few: as of Inputs
pub record Extents (w : List ℕ) (b a ea c ec o g fuel : ℕ) (t u : Trie) : Type 0 where
  pub first : Span w b o g a ea t
  pub second : Span w b o g c ec u
  pub deep-t : levels t ≤ fuel
  pub deep-u : levels u ≤ fuel
  pub turn : 1 ≤ fuel
  pub few : o + 2 ^ 33 * fuel < 2 ^ 62

-- the distance to a node's last child, by its word
abbrev pub last_ahead : ℕ → ℕ
last_ahead x = cond (ltb x 2) 1 (x / 2)

abbrev pub tidy : Bool → Trie → Trie
tidy j t = cond j (simplify_t t) t

-- the words of a single leaf, where n nodes are one
abbrev pub leaf_of : ℕ → List ℕ
leaf_of n = cond (eqb n 1) (0 ∷ []) []

pub record Writes (w v : List ℕ) (b o n : ℕ) (t : Trie) : Type 0 where
  pub counts : n ≡ size t
  pub wrote : v ≡ put w (place b o) (body t)

-- t and u, of l and r nodes, are the halves below node o: w is v with what is written of them, and has room for the node over them, if it is one
pub record Halves (v w : List ℕ) (b : ℕ) (j : Bool) (o l r : ℕ) (t u : Trie) : Type 0 where
  pub first : l ≡ size t
  pub second : r ≡ size u
  pub pending : Pending v w b j o (answer (o + 1) t) (answer (o + 1 + size t) u) t u

-- t, of n nodes, is all that is below node o, on the side d: w is v with what is written of it, and has room for the node over it, whose word is x
pub record Only (v w : List ℕ) (b o x n : ℕ) (d : Bool) (t : Trie) : Type 0 where
  pub counts : n ≡ size t
  pub wrote : w ≡ put v (place b (o + 1)) (body t)
  pub one : 1 ≤ o
  pub word : x ≡ side d 1 2
  pub small : o + 1 + size t < 2 ^ 62
  pub room : is_none t ≡ false → place b (o + 1 + size t) ≤ length w
