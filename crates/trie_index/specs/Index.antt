-- The index of a trie by its first eight bits: a word for each of the 256 strings of eight bits, in the order of their numbers, which says where a walk stands after them.
--
--   node_at d r          the word of a node that is d bits down and r nodes behind the root
--   absent_at d          the word of an absence: d nodes lead there
--   standing q d r t    the word of a walk that has come to the trie t, d bits down and r nodes behind the root, with the bits q still to go: it ends at a member sooner
--   fill g i m          g i, g (i + 1) and so on, m numbers
--   index_t t            the index of the trie t
--   is_at w p xs         the words w are xs from place p on
--   Rooted w b n r t    the trie t is the one whose root has the number r among the n nodes that stand from b on: 0 where it has none
use Rattle.std.specs.Prelude.{Bool, true, cond, ◌&&◌, List, [], ◌∷◌, ◌≡◌, ℕ, zero, suc, ◌+◌, ◌*◌, eqb, get_or}
use Rattle.nets.specs.Bits.{Bits, bits}
use Rattle.nets.specs.Tries.{Trie, none, node, size, bare, side}
use Rattle.nodes.specs.Parse.{Stands}

abbrev pub node_at : ℕ → ℕ → ℕ
node_at d r = 32 * r + d

abbrev pub absent_at : ℕ → ℕ
absent_at d = 16 + d

unfoldable pub standing : Bits → ℕ → ℕ → Trie → ℕ
standing [] d r none = absent_at d
standing [] d r (node x y) = node_at d r
standing (b ∷ q) d r none = absent_at d
standing (b ∷ q) d r (node x y) = cond (bare x y) (node_at d r) (standing q (d + 1) (r + side b 1 (1 + size x)) (side b x y))

unfoldable pub fill : (ℕ → ℕ) → ℕ → ℕ → List ℕ
fill g i zero = []
fill g i (suc m) = g i ∷ fill g (i + 1) m

unfoldable pub index_t : Trie → List ℕ
index_t t = fill (λ v. standing (bits 8 v) 0 0 t) 0 256

unfoldable pub is_at : List ℕ → ℕ → List ℕ → Bool
is_at w p [] = true
is_at w p (x ∷ xs) = eqb (get_or w p 0) x && is_at w (p + 1) xs

pub record Rooted (w : List ℕ) (b n r : ℕ) (t : Trie) : Type 0 where
  pub empty : r ≡ 0 → t ≡ none
  pub some : (r ≡ 0 → ⊥) → (f : ℕ) × Stands w b n f r t × (t ≡ none → ⊥)
