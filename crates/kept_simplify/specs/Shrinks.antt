-- What simplify reads and writes. A trie of one node is left to whoever needs it, since its node may yet join: so all that is written stays.
--
--   body f p t                the words that are written of t: all, but for a single node;  rest_of: that node, where it is one
--   Tops f p s t              s is the string of the first node of the trie t below p, which is not empty
--   Source                    the trie t below p, not empty, stands from node i up to node e, and node o is not behind node i
--   Shrinks f w v b o x p t   x is the size of t, and v is w with what is written of it from node o on
--   Pending                   both halves of a branch point are written behind node o, each all but for a single node
use Rattle.std.specs.Prelude.{true, false, cond, ◌&&◌, List, [], ◌≡◌, ℕ, ◌+◌, ◌≤◌, eqb, length}
use Rattle.nets.specs.Bits.{Bits}
use Rattle.nets.specs.Networks.{width, net_from}
use Rattle.nets.specs.declared.Net.{Net}
use Rattle.nets.specs.Tries.{Trie, none, is_leaf}
use Rattle.nodes.specs.Words.{put}
use Rattle.trie_paths.specs.Spans.{snoc}
use Rattle.branch_points.specs.KeptTries.{kept_size}
use Rattle.kept_nodes.specs.Words.{node_words, kept_enc, spot}
use Rattle.kept_nodes.specs.Parse.{KeptRoom, KeptStands}

unfoldable pub body : ℕ → Bits → Trie → List ℕ
body f p t = cond (eqb (kept_size t) 1) [] (kept_enc f p t)

-- the node with the string s, where k nodes are one
unfoldable pub rest_of : ℕ → Bits → ℕ → List ℕ
rest_of f s k = cond (eqb k 1) (node_words f s 0) []

pub record Source (f : ℕ) (w : List ℕ) (b n i e o : ℕ) (p : Bits) (t : Trie) : Type 0 where
  pub room : KeptRoom f w b n
  pub here : KeptStands f w b n p i t
  pub some : t ≡ none → ⊥
  pub end : e ≡ i + kept_size t
  pub one : 1 ≤ o
  pub behind : o ≤ i

pub record Shrinks (f : ℕ) (w v : List ℕ) (b o x : ℕ) (p : Bits) (t : Trie) : Type 0 where
  pub size : x ≡ kept_size t
  pub wrote : v ≡ put w (spot f b o) (body f p t)

-- where the first node is the only one, the words of t are its words; and t is a leaf exactly where it is the only one and has the bits of p alone
pub record Tops (f : ℕ) (p s : Bits) (t : Trie) : Type 0 where
  pub some : t ≡ none → ⊥
  pub short : length s ≤ width f
  pub alone : kept_size t ≡ 1 → kept_enc f p t ≡ node_words f s 0
  pub full : is_leaf t ≡ (eqb (kept_size t) 1 && eqb (length s) (length p))

-- k nodes are those of the trie t below p, and x is the string of the first
pub record Half (f : ℕ) (p : Bits) (t : Trie) (x : Net) (k : ℕ) : Type 0 where
  pub s : Bits
  pub top : Tops f p s t
  pub size : k ≡ kept_size t
  pub string : x ≡ net_from f s

-- l and r are the halves below the string p: w is v with what is written of them behind node o, the second first, and there is room for all of it
pub record Pending (f : ℕ) (v w : List ℕ) (b o : ℕ) (p : Bits) (s x y : Net) (m k : ℕ) (l r : Trie) : Type 0 where
  pub path : s ≡ net_from f p
  pub second : Half f (snoc p true) r x m
  pub first : Half f (snoc p false) l y k
  pub wrote : w ≡ put (put v (spot f b (o + 1)) (body f (snoc p true) r)) (spot f b (o + 1 + kept_size r)) (body f (snoc p false) l)
  pub short : length p ≤ width f
  pub one : 1 ≤ o
  pub room : spot f b (o + 1 + kept_size r + kept_size l) ≤ length w
  pub few : o + 1 + kept_size r + kept_size l ≤ 4194305
  pub low : b ≤ 576
