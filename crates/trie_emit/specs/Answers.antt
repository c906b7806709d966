-- What is answered of a trie that is written lazily, and what is written of it: a single leaf is left to whoever needs it.
--
--   answer o t       the answer of the trie t that begins at node o
--   body t           the words that are written of it
--   Emits w v b o x t    x is that answer, and v is w with those words
use Rattle.std.specs.Prelude.{◌≡◌, Bool, true, false, List, [], ◌∷◌, ℕ, ◌+◌, ◌≤◌, ◌<◌, ◌^◌, length}
use Rattle.nets.specs.Tries.{Trie, size, glue}
use Rattle.nets.specs.TrieOps.{Kind, flat, mixed, kind_of}
use Rattle.nodes.specs.Words.{put, place, enc}
use Rattle.trie_emit.specs.declared.emitting.Emitted.{Emitted}
use Rattle.trie_emit.specs.declared.emitting.Emitted.TheVariants.{Empty, Full, Node}

abbrev pub said : Kind → ℕ → Emitted
said (flat false) e = Empty
said (flat true) e = Full
said mixed e = Node e

abbrev pub body_of : Kind → List ℕ → List ℕ
body_of (flat x) xs = []
body_of mixed xs = xs

unfoldable pub answer : ℕ → Trie → Emitted
answer o t = said (kind_of t) (o + size t)

unfoldable pub body : Trie → List ℕ
body t = body_of (kind_of t) (enc t)

pub record Emits (w v : List ℕ) (b o : ℕ) (x : Emitted) (t : Trie) : Type 0 where
  pub answers : x ≡ answer o t
  pub wrote : v ≡ put w (place b o) (body t)

-- what an answer says: the end, the words that are left to write, and that it is a leaf
abbrev pub end_of : Emitted → ℕ → ℕ
end_of Empty o = o
end_of Full o = o + 1
end_of (Node e) o = e

abbrev pub rest_of : Emitted → List ℕ
rest_of Empty = []
rest_of Full = 0 ∷ []
rest_of (Node e) = []

abbrev pub is_full : Emitted → Bool
is_full Empty = false
is_full Full = true
is_full (Node e) = false

-- x and y are the answers of l and r, one behind the other and both behind node o
pub record Both (o : ℕ) (x y : Emitted) (l r : Trie) : Type 0 where
  pub first : x ≡ answer (o + 1) l
  pub second : y ≡ answer (o + 1 + size l) r
  pub small : o + 1 + size l + size r < 2 ^ 62

-- and w is v with what is written of them, with room for the node over them, if it is one
pub record Pending (v w : List ℕ) (b : ℕ) (j : Bool) (o : ℕ) (x y : Emitted) (l r : Trie) : Type 0 where
  pub both : Both o x y l r
  pub wrote : w ≡ put (put v (place b (o + 1)) (body l)) (place b (o + 1 + size l)) (body r)
  pub one : 1 ≤ o
  pub room : kind_of (glue j l r) ≡ mixed → (place b (o + 1 + size l + size r) ≤ length w) × (o + 1 + size l + size r ≤ 1073741824)
