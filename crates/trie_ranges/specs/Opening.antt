-- The ranges of a trie, and one step on the way to them: a member goes on from the range that is open, or opens the next one.
--
--   ranges_t f t            the ranges of the members of t in the family f
--   next_of q               the address behind the open range, 0 where none is open or it ends at the last one
--   goes_on q a             the address a goes on from the open range
--   Takes f p q v s u      from the state q and the rows v the network p leads to the state s and the rows u
--   Ranged f t v u n       from the rows v all of t leads to the rows u and n ranges. Rows that the ranges do not fit into may hold anything
use Rattle.std.specs.Prelude.{Bool, true, false, not, ◌&&◌, List, [], ◌∷◌, map, ◌≡◌, ℕ, ◌+◌, ◌-◌, ◌*◌, ◌/◌, ◌%◌, ◌^◌, ◌≤◌, ◌<◌, eqb, length}
use Rattle.nets.specs.Bits.{Bits}
use Rattle.nets.specs.Tries.{Trie}
use Rattle.nets.specs.Networks.{width, value}
use Rattle.address_order.specs.Streams.{flat}
use Rattle.ranges.specs.Ranges.{Range, block_of, joined}
use Rattle.ranges.specs.Addresses.{after_of, range_row, range_rows}
use Rattle.nodes.specs.Words.{put}
use Rattle.trie_ranges.specs.declared.Open.{Open}

unfoldable pub ranges_t : ℕ → Trie → List Range
ranges_t f t = joined (map (block_of (width f)) (flat t))

abbrev pub next_of : Open → ℕ
next_of q = value q.hi q.lo

unfoldable pub goes_on : Open → ℕ → Bool
goes_on q a = not (eqb (next_of q) 0) && eqb (next_of q) a

abbrev pub address_row : ℕ → List ℕ
address_row a = a / 2 ^ 64 ∷ a % 2 ^ 64 ∷ []

pub record Takes (f : ℕ) (p : Bits) (q : Open) (v : List ℕ) (s : Open) (u : List ℕ) : Type 0 where
  pub next : next_of s ≡ after_of f (block_of (width f) p).last
  pub joins : goes_on q (block_of (width f) p).first ≡ true
      → (s.n ≡ q.n) × (4 * q.n ≤ length v → u ≡ put v (4 * q.n - 2) (address_row (block_of (width f) p).last))
  pub opens : goes_on q (block_of (width f) p).first ≡ false
      → (s.n ≡ q.n + 1) × (4 * (q.n + 1) ≤ length v → u ≡ put v (4 * q.n) (range_row (block_of (width f) p)))
  pub kept : length u ≡ length v

pub record Ranged (f : ℕ) (t : Trie) (v u : List ℕ) (n : ℕ) : Type 0 where
  pub count : n ≡ length (ranges_t f t)
  pub few : n < 1073741824
  pub kept : length u ≡ length v
  pub rows : 4 * length (ranges_t f t) ≤ length v → u ≡ put v 0 (range_rows (ranges_t f t))
