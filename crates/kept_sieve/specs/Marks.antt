-- Words of the second form with marks: what is left of a trie shows in the heads of its nodes.
--
--   mark_bit            what a mark adds to the head of a node
--   is_among s t        s is t without some of its members
--   marked ws          the words of a trie of which nothing is left: its first node has a mark
--   mark_enc f p t s    the words of the trie t that stands below the string p, of which s is left: a mark at each node where a part begins of which nothing
--                      is left, and not above it
--   Sieves             what moving what is left asks: t stands marked from node i up to node e, and node o is not behind it
--   Sieved             what it leaves: no mark, and s from node o on
use Rattle.std.specs.Prelude.{Bool, true, false, cond, ◌&&◌, ◌||◌, List, [], ◌∷◌, ◌++◌, ◌≡◌, ℕ, suc, ◌+◌, ◌-◌, ◌≤◌, eqb, leb, length}
use Rattle.std.specs.Bool.{beq as same}
use Rattle.nets.specs.Bits.{Bits}
use Rattle.nets.specs.Networks.{width}
use Rattle.nets.specs.Tries.{Trie, none, node, bare, levels}
use Rattle.nodes.specs.Words.{put, Has}
use Rattle.trie_paths.specs.Spans.{snoc}
use Rattle.branch_points.specs.KeptTries.{kept, kept_size}
use Rattle.kept_nodes.specs.Words.{node_words, distance, own_words, kept_enc, spot}
use Rattle.kept_nodes.specs.Parse.{KeptRoom}
use Rattle.kept_writing.specs.Writes.{Writable}

abbrev pub mark_bit : ℕ
mark_bit = 2147483648

unfoldable pub is_among : Trie → Trie → Bool
is_among none t = true
is_among (node a c) none = false
is_among (node a c) (node l r) = same (bare a c) (bare l r) && (is_among a l && is_among c r)

abbrev pub marked : List ℕ → List ℕ
marked [] = []
marked (x ∷ ws) = (x + mark_bit) ∷ ws

unfoldable pub mark_enc : ℕ → Bits → Trie → Trie → List ℕ
mark_enc f p none s = []
mark_enc f p (node l r) none = marked (kept_enc f p (node l r))
mark_enc f p (node l r) (node a c) = own_words (kept l r) f p (distance l r) ++ (mark_enc f (snoc p true) r c ++ mark_enc f (snoc p false) l a)

pub record Sieves (f : ℕ) (w : List ℕ) (b n i e o : ℕ) (p : Bits) (t s : Trie) : Type 0 where
  pub room : KeptRoom f w b n
  pub has : Has w (spot f b i) (mark_enc f p t s)
  pub deep : length p + levels t ≤ suc (width f)
  pub some : t ≡ none → ⊥
  pub among : is_among s t ≡ true
  pub one : 1 ≤ o
  pub behind : o ≤ i
  pub end : e ≡ i + kept_size t
  pub last : e ≤ suc n

pub record Sieved (f : ℕ) (w v : List ℕ) (b i o r : ℕ) (p : Bits) (t s : Trie) : Type 0 where
  pub wrote : v ≡ put (put w (spot f b i) (kept_enc f p t)) (spot f b o) (kept_enc f p s)
  pub end : r ≡ o + kept_size s

-- the nodes of a branch point over two nodes with the heads x and y: one where neither has a mark
unfoldable pub top_size : ℕ → ℕ → ℕ
top_size x y = cond (leb mark_bit x || leb mark_bit y) 0 1

-- the words of a branch point at node o, where there is one: its second half begins behind it, and its first half at node k
abbrev pub link_words : ℕ → Bits → ℕ → ℕ → ℕ → List ℕ
link_words f p o from k = cond (eqb from o) [] (node_words f p (k - o))

abbrev pub Links : ℕ → List ℕ → ℕ → ℕ → ℕ → ℕ → Type 0
Links f w b o from k = (from ≡ o → ⊥) → (o ≤ k) × Writable f w b o (k - o)
