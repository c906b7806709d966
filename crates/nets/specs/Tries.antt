-- Tries of bit strings. Each leaf is a member, and its path from the root is the member's bits.
--
--   size t, levels t      how many nodes, and how many of them on the longest path
--   member_t q t           q leads from the root to a leaf;  node_at any q t: to a node
--   covers_t t q           a leaf is met on the way down q
--   list_of t, trie_of l    the members in order, and the trie of a list
--   insert_t, simplify_t    add, simplify
use Rattle.std.specs.Prelude.{Bool, true, false, cond, ◌&&◌, ◌||◌, List, [], ◌∷◌, ◌++◌, map, ℕ, zero, suc, ◌+◌, max}
use Rattle.nets.specs.Bits.{Bits}

pub data Trie : Type 0 where
  none : Trie
  node : Trie → Trie → Trie

abbrev pub leaf : Trie
leaf = node none none

unfoldable pub size : Trie → ℕ
size none = 0
size (node l r) = 1 + size l + size r

unfoldable pub levels : Trie → ℕ
levels none = 0
levels (node l r) = suc (max (levels l) (levels r))

abbrev pub is_none : Trie → Bool
is_none none = true
is_none (node l r) = false

-- a node with these children is a leaf
abbrev pub bare : Trie → Trie → Bool
bare l r = is_none l && is_none r

abbrev pub is_leaf : Trie → Bool
is_leaf none = false
is_leaf (node l r) = bare l r

-- the one on the side of the bit; and the node with x on that side and y on the other
abbrev pub side : {A : Type 0} → Bool → A → A → A
side false x y = x
side true x y = y

abbrev pub fork : Bool → Trie → Trie → Trie
fork b x y = node (side b x y) (side b y x)

-- the trie with these halves: none where both are empty, and, where halves are joined, a leaf where both are full
abbrev pub glue : Bool → Trie → Trie → Trie
glue j none none = none
glue j none (node a b) = node none (node a b)
glue j (node a b) none = node (node a b) none
glue j (node a b) (node c d) = cond (j && (bare a b && bare c d)) leaf (node (node a b) (node c d))

abbrev pub node_at : (Trie → Trie → Bool) → Bits → Trie → Bool
node_at f [] none = false
node_at f [] (node l r) = f l r
node_at f (b ∷ q) none = false
node_at f (b ∷ q) (node l r) = node_at f q (side b l r)

abbrev pub any : Trie → Trie → Bool
any l r = true

abbrev pub member_t : Bits → Trie → Bool
member_t q t = node_at bare q t

abbrev pub covers_t : Trie → Bits → Bool
covers_t none [] = false
covers_t none (b ∷ q) = false
covers_t (node l r) [] = bare l r
covers_t (node l r) (b ∷ q) = bare l r || covers_t (side b l r) q

-- the paths to the nodes of which f holds, k bits long, and those of less than k bits, in order
abbrev pub level : (Trie → Trie → Bool) → ℕ → Trie → List Bits
level f zero none = []
level f zero (node l r) = cond (f l r) ([] ∷ []) []
level f (suc k) none = []
level f (suc k) (node l r) = map (λ p. false ∷ p) (level f k l) ++ map (λ p. true ∷ p) (level f k r)

abbrev pub below : (Trie → Trie → Bool) → ℕ → Trie → List Bits
below f zero t = []
below f (suc k) t = below f k t ++ level f k t

unfoldable pub list_of : Trie → List Bits
list_of t = below bare (levels t) t

unfoldable pub insert_t : Bits → Trie → Trie
insert_t [] t = leaf
insert_t (b ∷ p) none = fork b (insert_t p none) none
insert_t (b ∷ p) (node l r) = cond (bare l r) leaf (fork b (insert_t p (side b l r)) (side b r l))

unfoldable pub trie_of : List Bits → Trie
trie_of [] = none
trie_of (p ∷ l) = insert_t p (trie_of l)

unfoldable pub simplify_t : Trie → Trie
simplify_t none = none
simplify_t (node l r) = cond (bare l r) leaf (glue true (simplify_t l) (simplify_t r))
