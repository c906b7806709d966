-- The second form of a trie in words: its members and branch points, each as its string and the distance to its first child; behind a node stand the nodes of its
-- second half, then those of its first. A string is the network with these bits.
--
--   stride f           how many words a node of the family f takes: two of IPv4, five of IPv6
--   address_words n     the words of an address, the most significant first
--   node_words f s d    the words of the node with the string s, whose first child is d nodes behind it; d is 0 for a member
--   kept_enc f p t      the words of the trie t that stands below the string p
--   spot f b i         where the words of node i begin, numbers from 1 on and places from b on
use Rattle.std.specs.Prelude.{Bool, true, false, cond, List, [], ◌∷◌, ◌++◌, ℕ, ◌+◌, ◌-◌, ◌*◌, ◌/◌, ◌%◌, ◌^◌, eqb, length}
use Rattle.nets.specs.Bits.{Bits}
use Rattle.nets.specs.Tries.{Trie, none, node, is_none}
use Rattle.nets.specs.Networks.{net_from}
use Rattle.nets.specs.declared.Net.{Net}
use Rattle.trie_paths.specs.Spans.{snoc}
use Rattle.branch_points.specs.KeptTries.{kept, kept_size}

unfoldable pub stride : ℕ → ℕ
stride f = cond (eqb f 4) 2 5

abbrev pub four_words : ℕ → ℕ → List ℕ
four_words hi lo = (hi / 2 ^ 32) ∷ (hi % 2 ^ 32) ∷ (lo / 2 ^ 32) ∷ (lo % 2 ^ 32) ∷ []

unfoldable pub address_words : Net → List ℕ
address_words n = cond (eqb n.family 4) (n.lo ∷ []) (four_words n.hi n.lo)

-- the length and the distance in one word, then the address
unfoldable pub node_words : ℕ → Bits → ℕ → List ℕ
node_words f s d = (length s + 256 * d) ∷ address_words (net_from f s)

-- the distance from a kept node to its first child, and the words of a node, if it is kept
unfoldable pub distance : Trie → Trie → ℕ
distance l r = cond (is_none l) 0 (1 + kept_size r)

abbrev pub own_words : Bool → ℕ → Bits → ℕ → List ℕ
own_words true f s d = node_words f s d
own_words false f s d = []

unfoldable pub kept_enc : ℕ → Bits → Trie → List ℕ
kept_enc f p none = []
kept_enc f p (node l r) = own_words (kept l r) f p (distance l r) ++ (kept_enc f (snoc p true) r ++ kept_enc f (snoc p false) l)

unfoldable pub spot : ℕ → ℕ → ℕ → ℕ
spot f b i = b + stride f * (i - 1)
