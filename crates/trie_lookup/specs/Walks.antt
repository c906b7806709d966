-- The walk of a lookup in the first form: down from a root's number by the bits of the query, one word a level.
--
--   child_at i x           the number of the child that stands x nodes behind node i: 0, the mark for absence, where x is 0
--   walk w b n d i q      what node i of n shows, d bits down, where the bits q are still to come: a leaf is a member of length d, and down to here d + 1 nodes are read
--   walk_from w b n q r    what the root's number r shows
--   stands_on w b n r x q  what the word x of an index shows, by which a walk stands after eight bits, with the bits q still to come: an absence, a member that ended sooner, a node; r is the root's number
use Rattle.std.specs.Prelude.{Bool, cond, ◌&&◌, List, [], ◌∷◌, ℕ, ◌+◌, ◌-◌, ◌/◌, ◌%◌, eqb, leb}
use Rattle.nets.specs.Bits.{Bits}
use Rattle.nets.specs.Tries.{side}
use Rattle.nets.specs.declared.Refusal.TheVariants.{Damaged}
use Rattle.nodes.specs.Words.{word_at}
use Rattle.trie_lookup.specs.declared.Shown.{Shown}
use Rattle.trie_lookup.specs.declared.Shown.TheVariants.{Member, Nothing, Refused}

abbrev pub child_at : ℕ → ℕ → ℕ
child_at i x = cond (eqb x 0) 0 (i + x)

-- both children's numbers that the word x of node i gives are 0 or a node's
abbrev pub are_nodes : ℕ → ℕ → ℕ → Bool
are_nodes n i x = leb (child_at i (x % 2)) n && leb (child_at i (x / 2)) n

-- the distance to the child on the side of the bit
abbrev pub toward : Bool → ℕ → ℕ
toward c x = side c (x % 2) (x / 2)

-- what the word x of node i shows, d bits down, where s is what the way on shows
abbrev pub shows : ℕ → ℕ → ℕ → ℕ → Shown → Shown
shows n d i x s = cond (eqb x 0) (Member d (d + 1)) (cond (are_nodes n i x) s (Refused Damaged))

unfoldable pub walk : List ℕ → ℕ → ℕ → ℕ → ℕ → Bits → Shown
walk w b n d i [] = shows n d i (word_at w b i) (Nothing (d + 1))
walk w b n d i (c ∷ q) =
    shows n d i (word_at w b i) (cond (eqb (toward c (word_at w b i)) 0) (Nothing (d + 1)) (walk w b n (d + 1) (i + toward c (word_at w b i)) q))

unfoldable pub walk_from : List ℕ → ℕ → ℕ → Bits → ℕ → Shown
walk_from w b n q r = cond (eqb r 0) (Nothing 0) (cond (leb r n) (walk w b n 0 r q) (Refused Damaged))

-- i is a node's number
abbrev pub is_node : ℕ → ℕ → Bool
is_node n i = leb 1 i && leb i n

-- what the node i shows, of which the index says that it is d bits down: eight, and the walk goes on, or it is a leaf
unfoldable pub node_shows : List ℕ → ℕ → ℕ → ℕ → ℕ → Bits → Shown
node_shows w b n d i q = cond (eqb d 8) (walk w b n 8 i q) (cond (eqb (word_at w b i) 0) (Member d (d + 1)) (Refused Damaged))

unfoldable pub stands_on : List ℕ → ℕ → ℕ → ℕ → ℕ → Bits → Shown
stands_on w b n r x q =
    cond (leb 16 x && leb x 24) (Nothing (x - 16)) (cond (leb (x % 32) 8 && is_node n (r + x / 32)) (node_shows w b n (x % 32) (r + x / 32) q) (Refused Damaged))
