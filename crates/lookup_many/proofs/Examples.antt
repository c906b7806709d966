-- A small pool asked by the definitions alone: a member, a block of which both halves are members, with a bit cut, and a length that is none; then a root's number that is no
-- node's, where each network has its own 2. Assumes nothing.
use mathlib.Core.List.{List, [], ◌∷◌}
use mathlib.Core.Path.{◌≡◌, refl}
use Prim.Native.Nat.{ℕ}
use lib.ListN.{replicate}
use Rattle.nets.specs.Bits.{bits}
use Rattle.nets.specs.Networks.{width, net_bits, in_range, refusal_of, has_bit_past}
use Rattle.nodes.specs.Words.{put}
use Rattle.pool_state.specs.Decode.{mark, is_form, is_header}
use Rattle.trie_lookup.specs.Walks.{walk, walk_from}
use Rattle.lookup.specs.Rules.{on_root, path_of, query, lookup, contains_rule}
use Rattle.trie_index.specs.Index.{fill}
use Rattle.lookup_many.specs.Rules.{in_one, answers_of, all_no}

-- an IPv4 pool of three nodes with one set, by the number of its root and the words of its nodes: 5, 0, 0 hold 0.0.0.0/1 and 128.0.0.0/1
abbrev words : ℕ → List ℕ → List ℕ
words r xs = put (put (put (replicate 96 0) 0 (mark ∷ 4 ∷ 1 ∷ 3 ∷ [])) 64 (r ∷ 3 ∷ 3 ∷ [])) 72 xs

-- 10.0.0.0/8, 10.0.0.0/0 and 10.0.0.0/33, and a number behind them
abbrev row : List ℕ
row = 0 ∷ 167772160 ∷ 8 ∷ 0 ∷ 167772160 ∷ 0 ∷ 0 ∷ 167772160 ∷ 33 ∷ 0 ∷ []

pub answers : (answers_of (words 1 (5 ∷ 0 ∷ 0 ∷ [])) 0 4 row ≡ (281474976710658 ∷ 562949953421313 ∷ 30064771072 ∷ []))
    × (answers_of (words 4 []) 0 4 row ≡ (8589934592 ∷ 8589934592 ∷ 30064771072 ∷ []))
    × (all_no (words 4 []) 0 4 row 3 ≡ 0) × (all_no (words 4 []) 0 4 row 2 ≡ 11) × (all_no (words 4 []) 0 6 row 2 ≡ 6) × (all_no (words 4 []) 1 6 row 2 ≡ 3) × (all_no [] 1 6 row 2 ≡ 2)
unfolding put is_form is_header on_root path_of query lookup walk_from walk contains_rule width bits net_bits in_range refusal_of has_bit_past in_one fill answers_of all_no
answers = (refl, refl, refl, refl, refl, refl, refl)
