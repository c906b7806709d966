-- What is answered of a trie that is written lazily, backward from an end, and what is written of it: a single leaf is left to whoever needs it. The answer has the
-- size, so that
-- counting and writing have one answer; the trie t that ends before node e begins at node e - kept_size t.
--
--   answer t               the answer of the trie t
--   body f p t             the words that are written of it, below the string p
--   Emits f w v b p e x t  x is that answer, and v is w with those words, which end before node e
use Rattle.std.specs.Prelude.{◌≡◌, Bool, true, false, ◌&&◌, List, [], ℕ, ◌+◌, ◌-◌, ◌≤◌, ◌<◌, ◌^◌, ltb, length}
use Rattle.nets.specs.Bits.{Bits}
use Rattle.nets.specs.Tries.{Trie, glue}
use Rattle.nets.specs.TrieOps.{Kind, flat, mixed, kind_of}
use Rattle.nets.specs.Networks.{width}
use Rattle.nodes.specs.Words.{put}
use Rattle.trie_emit.specs.Answers.{body_of}
use Rattle.trie_paths.specs.Spans.{snoc}
use Rattle.branch_points.specs.KeptTries.{kept_size}
use Rattle.kept_nodes.specs.Words.{node_words, own_words, kept_enc, spot}
use Rattle.trie_emit.specs.declared.emitting.Emitted.{Emitted}
use Rattle.trie_emit.specs.declared.emitting.Emitted.TheVariants.{Empty, Full, Node}

abbrev pub said : Kind → ℕ → Emitted
said (flat false) k = Empty
said (flat true) k = Full
said mixed k = Node k

unfoldable pub answer : Trie → Emitted
answer t = said (kind_of t) (kept_size t)

unfoldable pub body : ℕ → Bits → Trie → List ℕ
body f p t = body_of (kind_of t) (kept_enc f p t)

pub record Emits (f : ℕ) (w v : List ℕ) (b : ℕ) (p : Bits) (e : ℕ) (x : Emitted) (t : Trie) : Type 0 where
  pub answers : x ≡ answer t
  pub wrote : v ≡ put w (spot f b (e - kept_size t)) (body f p t)

-- what an answer says: the size, and the words that are left to write; trie_emit says that it is a leaf
abbrev pub size_of : Emitted → ℕ
size_of Empty = 0
size_of Full = 1
size_of (Node k) = k

abbrev pub rest_of : ℕ → Bits → Emitted → List ℕ
rest_of f p Empty = []
rest_of f p Full = node_words f p 0
rest_of f p (Node k) = []

-- x and y are the answers of l and r
pub record Both (x y : Emitted) (l r : Trie) : Type 0 where
  pub first : x ≡ answer l
  pub second : y ≡ answer r
  pub small : kept_size l + kept_size r < 2 ^ 62

-- and w is v with what is written of them, the first before node e and the second before it, with room for what is over them, if it is more than a leaf
pub record Pending (f : ℕ) (v w : List ℕ) (b : ℕ) (j : Bool) (p : Bits) (e : ℕ) (x y : Emitted) (l r : Trie) : Type 0 where
  pub both : Both x y l r
  pub wrote : w ≡ put (put v (spot f b (e - kept_size l)) (body f (snoc p false) l)) (spot f b (e - kept_size l - kept_size r)) (body f (snoc p true) r)
  pub short : length p < width f
  pub room : kind_of (glue j l r) ≡ mixed → (spot f b e ≤ length w) × (kept_size (glue j l r) < e) × (e ≤ 4194305) × (b < 1073741824)

-- the node over two tries that begin at o and m, of which the one at m ends before e
unfoldable pub top_words : ℕ → Bits → ℕ → ℕ → ℕ → List ℕ
top_words f p o m e = own_words (ltb o m && ltb m e) f p (m - (o - 1))
