-- A small pool, read by the definitions alone: the order of the refusals, what a path shows, and what it does not see. Assumes nothing.
use mathlib.Core.Bool.{true, false}
use mathlib.Core.List.{List, [], ◌∷◌}
use mathlib.Core.Path.{◌≡◌, refl}
use Prim.Native.Nat.{ℕ}
use lib.ListN.{replicate}
use Rattle.nets.specs.Bits.{bits}
use Rattle.nets.specs.Tries.{size}
use Rattle.nets.specs.Networks.{width, net_words, net_bits, net_from, in_range, refusal_of, no_net, cleared, has_bit_past}
use Rattle.nets.specs.declared.Net.{Net}
use Rattle.nets.specs.declared.Refusal.TheVariants.{Damaged}
use Rattle.nodes.specs.Words.{put}
use Rattle.nodes.specs.Parse.{parse}
use Rattle.kept_nodes.specs.Words.{stride, spot}
use Rattle.kept_nodes.specs.Parse.{net_found, string_at}
use Rattle.kept_lookup.specs.Walks.{kept_walk, kept_walk_from}
use Rattle.pool_state.specs.Kept.{second, read_l}
use Rattle.pool_state.specs.Decode.{mark, damaged, is_form, is_header, read_set, read_sets, read_pool, decode}
use Rattle.trie_lookup.specs.Walks.{walk, walk_from, node_shows, stands_on}
use Rattle.lookup.specs.Rules.{unsought, on_root, path_of, query, lookup, supernet_rule, empty_rule}
use Rattle.trie_lookup.specs.declared.Shown.TheVariants.{Member, Nothing, Refused}

-- an IPv4 pool of three nodes with one set, by the number of its root and the words of its nodes: 5, 0, 0 hold 0.0.0.0/1 and 128.0.0.0/1
abbrev words : ℕ → List ℕ → List ℕ
words r xs = put (put (put (replicate 96 0) 0 (mark ∷ 4 ∷ 1 ∷ 3 ∷ [])) 64 (r ∷ 3 ∷ 3 ∷ [])) 72 xs

-- 10.0.0.0/n
abbrev ten : ℕ → Net
ten n = net_words 4 0 167772160 n

-- A member of length 1; no member, the query being the block of both, with a bit cut; then 3 before 6, 6 before 7, 7 before the damage of the path.
pub answers : (supernet_rule (words 1 (5 ∷ 0 ∷ 0 ∷ [])) 0 (ten 8) ≡ (0, (true, (net_words 4 0 0 1, (2, false)))))
    × (supernet_rule (words 1 (5 ∷ 0 ∷ 0 ∷ [])) 0 (ten 0) ≡ (0, (false, (no_net, (1, true)))))
    × (supernet_rule (words 4 []) 1 (net_words 6 0 0 129) ≡ (3, unsought))
    × (supernet_rule (words 4 []) 0 (net_words 6 0 0 129) ≡ (6, unsought))
    × (supernet_rule (words 4 []) 0 (ten 33) ≡ (7, unsought))
    × (supernet_rule (words 4 []) 0 (ten 8) ≡ (2, unsought))
    × (empty_rule (words 4 []) 0 ≡ (2, false))
    × (empty_rule (words 0 []) 0 ≡ (0, true))
unfolding put is_form is_header on_root path_of query lookup walk_from walk supernet_rule empty_rule width bits net_bits net_from in_range refusal_of cleared has_bit_past
answers = (refl, refl, refl, refl, refl, refl, refl, refl)

-- The number of the other child is looked at too: 1 + 7 is no node's. What stands beside the path is not: the pool is damaged, and the lookup says what its path shows.
pub beside : (supernet_rule (words 1 (15 ∷ 0 ∷ 0 ∷ [])) 0 (ten 8) ≡ (2, unsought))
    × (supernet_rule (words 1 (15 ∷ 0 ∷ 0 ∷ [])) 0 (ten 0) ≡ (2, unsought))
    × (decode (words 1 (5 ∷ 0 ∷ 7 ∷ [])) ≡ damaged)
    × (supernet_rule (words 1 (5 ∷ 0 ∷ 7 ∷ [])) 0 (ten 8) ≡ (0, (true, (net_words 4 0 0 1, (2, false)))))
    × (empty_rule (words 1 (5 ∷ 0 ∷ 7 ∷ [])) 0 ≡ (0, false))
unfolding put is_form is_header on_root path_of query lookup walk_from walk supernet_rule empty_rule width bits net_bits net_from in_range refusal_of cleared has_bit_past decode read_pool read_sets read_set read_l parse size
beside = (refl, refl, refl, refl, refl)

-- The same set, indexed, by the word of the byte 10: a leaf after 1 bit, its own; a leaf after 0 bits, which counts as the word says; an absence. None of the three, no leaf, no node.
-- A query of seven bits does not look at it.
abbrev indexed : ℕ → List ℕ
indexed x = put (put (put (put (replicate 352 0) 0 (mark ∷ 4 ∷ 1 ∷ 3 ∷ 1 ∷ [])) 64 (1 ∷ 3 ∷ 3 ∷ 0 ∷ 1 ∷ [])) 72 (5 ∷ 0 ∷ 0 ∷ [])) 106 (x ∷ [])

pub from-index : (supernet_rule (indexed 33) 0 (ten 8) ≡ (0, (true, (net_words 4 0 0 1, (2, false)))))
    × (supernet_rule (indexed 32) 0 (ten 8) ≡ (0, (true, (net_words 4 0 0 0, (1, false)))))
    × (supernet_rule (indexed 24) 0 (ten 8) ≡ (0, (false, (no_net, (8, false)))))
    × (supernet_rule (indexed 25) 0 (ten 8) ≡ (2, unsought))
    × (supernet_rule (indexed 1) 0 (ten 8) ≡ (2, unsought))
    × (supernet_rule (indexed 104) 0 (ten 8) ≡ (2, unsought))
    × (supernet_rule (indexed 25) 0 (ten 7) ≡ (0, (true, (net_words 4 0 0 1, (2, false)))))
unfolding put is_form is_header on_root path_of query lookup walk_from walk node_shows stands_on supernet_rule width bits net_bits net_from in_range refusal_of cleared has_bit_past
from-index = (refl, refl, refl, refl, refl, refl, refl)

-- The second form, by the tag and the words of the nodes: the same two members below their branch point, whose tag is not read; a distance to no node; a member that is no longer than
-- the branch point above it; a member alone, in one node.
abbrev kept : ℕ → List ℕ → List ℕ
kept t xs = put (put (put (replicate 96 0) 0 (mark ∷ 4 ∷ 1 ∷ 3 ∷ 0 ∷ 1 ∷ [])) 64 (1 ∷ 3 ∷ 3 ∷ 0 ∷ t ∷ [])) 72 xs

pub in-second : (path_of second (kept 0 (512 ∷ 0 ∷ 1 ∷ 2147483648 ∷ 1 ∷ 0 ∷ [])) 0 (net_bits (ten 8)) ≡ Member 1 2)
    × (path_of second (kept 1 (512 ∷ 0 ∷ 1 ∷ 2147483648 ∷ 1 ∷ 0 ∷ [])) 0 (net_bits (ten 8)) ≡ Member 1 2)
    × (path_of second (kept 0 (512 ∷ 0 ∷ 1 ∷ 2147483648 ∷ 1 ∷ 0 ∷ [])) 0 (net_bits (ten 0)) ≡ Nothing 1)
    × (path_of second (kept 0 (768 ∷ 0 ∷ 1 ∷ 2147483648 ∷ 1 ∷ 0 ∷ [])) 0 (net_bits (ten 8)) ≡ Refused Damaged)
    × (path_of second (kept 0 (512 ∷ 0 ∷ 1 ∷ 2147483648 ∷ 0 ∷ 0 ∷ [])) 0 (net_bits (ten 8)) ≡ Refused Damaged)
    × (path_of second (kept 0 (8 ∷ 167772160 ∷ [])) 0 (net_bits (ten 24)) ≡ Member 8 1)
unfolding put path_of kept_walk_from kept_walk string_at net_found spot stride width bits net_bits
in-second = (refl, refl, refl, refl, refl, refl)
