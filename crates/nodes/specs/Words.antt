-- Words: one list written over another, one standing in another, and the encoding of a trie.
--
--   put w p xs      xs written over w from p on
--   Has w p xs      xs stands in w from p on
--   enc t           the words of a trie in preorder, one a node: the distance to the first child, 0 or 1, and twice the distance to the second
--   chain p         the trie of the one path p
--   place b i       where the word of node i stands, numbers from 1 on and places from b on; word_at w b i: that word
use Rattle.std.specs.Prelude.{cond, ◌≡◌, List, [], ◌∷◌, ◌++◌, ℕ, zero, suc, ◌+◌, ◌-◌, ◌*◌, ◌≤◌, ◌<◌, eqb, length, get_or}
use Rattle.nets.specs.Bits.{Bits}
use Rattle.nets.specs.Tries.{Trie, none, node, size, insert_t}

-- what would stand past the end is dropped
unfoldable pub put : List ℕ → ℕ → List ℕ → List ℕ
put [] p xs = []
put (y ∷ w) (suc p) xs = y ∷ put w p xs
put (y ∷ w) zero [] = y ∷ w
put (y ∷ w) zero (x ∷ xs) = x ∷ put w zero xs

pub record Has (w : List ℕ) (p : ℕ) (xs : List ℕ) : Type 0 where
  pub fits : p + length xs ≤ length w
  pub at : (k : ℕ) → k < length xs → get_or w (p + k) 0 ≡ get_or xs k 0

-- no place is both among the m from p on and among the n from q on
abbrev pub Apart : ℕ → ℕ → ℕ → ℕ → Type 0
Apart p m q n = (k : ℕ) → p ≤ k → k < p + m → q ≤ k → k < q + n → ⊥

-- the distance from a node to its first child and to its second, or 0
unfoldable pub link0 : Trie → ℕ
link0 none = 0
link0 (node l r) = 1

unfoldable pub link1 : Trie → Trie → ℕ
link1 l none = 0
link1 l (node x y) = 1 + size l

-- the word of a node: a leaf is 0
unfoldable pub word : Trie → Trie → ℕ
word l r = link0 l + 2 * link1 l r

unfoldable pub enc : Trie → List ℕ
enc none = []
enc (node l r) = word l r ∷ (enc l ++ enc r)

abbrev pub chain : Bits → Trie
chain p = insert_t p none

abbrev pub place : ℕ → ℕ → ℕ
place b i = b + (i - 1)

abbrev pub word_at : List ℕ → ℕ → ℕ → ℕ
word_at w b i = get_or w (place b i) 0

-- how many words are 0: in the words of a trie, its leaves
unfoldable pub zeros : List ℕ → ℕ
zeros [] = 0
zeros (x ∷ xs) = cond (eqb x 0) 1 0 + zeros xs
