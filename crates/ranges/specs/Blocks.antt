-- The networks of a range, and what adding them leaves.
--
--   within, apart     how the block of 2^w addresses from x on lies: the range has all of it, or none
--   range_t w x r      the trie of the range in that block: a leaf where the range has all of it, else that of its halves
--   nets_of w r        the fewest networks that have exactly the addresses of r
--   add_all l ns       the list l after adding the networks ns, one after the other
--   add_range_l w l r   the list l after adding the range r
--   add_ranges w l rs  and after adding the ranges rs, one after the other
use Rattle.std.specs.Prelude.{ℕ, zero, suc, ◌+◌, ◌^◌, true, false, cond, ◌&&◌, ◌||◌, List, [], ◌∷◌, nat_le, nat_lt}
use Rattle.nets.specs.Bits.{Bits}
use Rattle.nets.specs.Tries.{Trie, none, leaf, glue, list_of}
use Rattle.nets.specs.TrieOps.{Kind, flat, mixed}
use Rattle.nets.specs.Lists.{add_l}
use Rattle.ranges.specs.Ranges.{Range, holds}

-- what the range has of the block of 2^w addresses from x on: all, none, or a part
unfoldable pub part_of : ℕ → ℕ → Range → Kind
part_of w x r =
    cond (nat_le r.first x && nat_le (x + 2 ^ w) (suc r.last)) (flat true) (cond (nat_lt r.last x || nat_le (x + 2 ^ w) r.first) (flat false) mixed)

unfoldable pub range_t : ℕ → ℕ → Range → Trie
range_t zero x r = cond (holds r x) leaf none
range_t (suc w) x r =
    let low = range_t w x r in
    let up = range_t w (x + 2 ^ w) r in
    elim (part_of (suc w) x r) [
      | flat false ↦ none
      | flat true ↦ leaf
      | mixed ↦ glue true low up
    ]

unfoldable pub nets_of : ℕ → Range → List Bits
nets_of w r = list_of (range_t w 0 r)

unfoldable pub add_all : List Bits → List Bits → List Bits
add_all l [] = l
add_all l (n ∷ ns) = add_all (add_l l n) ns

unfoldable pub add_range_l : ℕ → List Bits → Range → List Bits
add_range_l w l r = add_all l (nets_of w r)

unfoldable pub add_ranges : ℕ → List Bits → List Range → List Bits
add_ranges w l [] = l
add_ranges w l (r ∷ rs) = add_ranges w (add_range_l w l r) rs
