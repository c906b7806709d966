-- The walks of the queries of a call.
--
--   clip, clipped         a length as a byte, and a query with it: 255 for any that is longer, which no network has
--   first_of k, second s   how many of k bits the first word of a query has, and the bits of the second
--   lane_of p q            the walk of the query q at its beginning;  Started, Came: those of e queries in a row, there and further on
--   root_in w k, place_in   the number of the root of set k, and the place of that node
--   Seat w b n k f        what the walks of one call share: the header, the first form, where the nodes stand, a set that is not indexed and whose root's number is a node's, and the pool's family
--   Ending                a walk has come to where the path shows what it shows from the root
--   Fits qs i m v         the m queries from number i on are in the row, and the answers have a place for each
use Rattle.std.specs.Prelude.{true, cond, List, ◌++◌, ◌≡◌, ℕ, ◌+◌, ◌-◌, ◌/◌, ◌≤◌, ◌<◌, ltb, length, get_or}
use Rattle.nets.specs.Networks.{with_len, refusal_of, bits_left, bits_words, start_of, no_bits}
use Rattle.nets.specs.Refusals.{answered}
use Rattle.nets.specs.declared.Net.{Net}
use Rattle.nets.specs.declared.PrefixBits.{PrefixBits}
use Rattle.pool_state.specs.Decode.{record_at, base, is_header}
use Rattle.pool_state.specs.Rules.{tag_in}
use Rattle.trie_lookup.specs.Walks.{walk}
use Rattle.lookup.specs.Rules.{query}
use Rattle.lookup_many.specs.Rules.{query_at}
use Rattle.trie_lanes.specs.Lanes.{comes, On, Goes, lane_at, Wide}
use Rattle.trie_lanes.specs.declared.Lane.{Lane}

abbrev pub clip : ℕ → ℕ
clip k = cond (ltb k 255) k 255

abbrev pub clipped : Net → Net
clipped q = with_len q (clip q.len)

-- how many bits of a query the first word has, and the bits of the second word
abbrev pub first_of : ℕ → ℕ
first_of k = cond (ltb k 64) k 64

abbrev pub second : PrefixBits → PrefixBits
second s = bits_words s.lo 0 (s.len - first_of s.len)

-- by the bits s of a query, and by the query
abbrev pub lane_by : ℕ → PrefixBits → Lane
lane_by p s = record { p = p; word = s.hi; left = first_of s.len }

unfoldable pub lane_of : ℕ → Net → Lane
lane_of p q = lane_by p (answered (refusal_of q) no_bits (start_of q)).1

-- the first e walks of a row stand at the beginning of the queries from number i on
pub record Started (p f : ℕ) (qs : List ℕ) (i e : ℕ) (xs : List ℕ) : Type 0 where
  pub wide : Wide xs
  pub each : (a : ℕ) → a < e → lane_at xs a ≡ lane_of p (clipped (query_at f qs (i + a)))

abbrev pub root_in : List ℕ → ℕ → ℕ
root_in w k = get_or w (record_at k) 0

abbrev pub place_in : List ℕ → ℕ → ℕ → ℕ
place_in w b k = b + (root_in w k - 1)

-- and have come from there to where the row says
pub record Came (w : List ℕ) (b n p f : ℕ) (qs : List ℕ) (i e : ℕ) (xs : List ℕ) : Type 0 where
  pub wide : Wide xs
  pub few : e ≤ 32
  pub each : (a : ℕ) → a < e → Goes w b n (lane_of p (clipped (query_at f qs (i + a)))) (lane_at xs a)

pub record Seat (w : List ℕ) (b n k f : ℕ) : Type 0 where
  pub header : is_header w ≡ true
  pub known : k < get_or w 2 0
  pub form : get_or w 5 0 ≡ 0
  pub plain : tag_in w k ≡ 0
  pub from : b ≡ base (get_or w 2 0)
  pub nodes : n ≡ get_or w 3 0
  pub one : 1 ≤ root_in w k
  pub within : root_in w k ≤ n
  pub family : f ≡ get_or w 1 0

-- a walk of the query q, of the bits s, has come to l: from there the path shows what it shows from the root
pub record Ending (w : List ℕ) (b n k : ℕ) (q : Net) (s : PrefixBits) (l : Lane) : Type 0 where
  pub on : On b n l
  pub few : s.len ≤ 128
  pub less : l.left ≤ first_of s.len
  pub shows : walk w b n (first_of s.len - l.left) (l.p + 1 - b) (comes l ++ bits_left (second s)) ≡ query w k q

pub record Fits (qs : List ℕ) (i m : ℕ) (v : List ℕ) : Type 0 where
  pub queries : i + m ≤ length qs / 3
  pub answers : length qs / 3 ≤ length v
