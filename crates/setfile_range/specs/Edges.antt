-- The networks of a range by its two edges: the address in front of its first one, and the one behind its last. A range that begins at zero has no left edge, and one that ends at the last
-- address no right one.
--
--   beyond b p        the trie of what lies to one side of the path p: to the right where b is false, to the left where it is true. Whenever p goes by the bit b, it is the other half
--   between p q       the trie of what lies between two paths
--   opened l r p q    the trie of what lies between the edges, where l and r say which of them are there
--   aside b p c       of the paths one bit longer than p, that which lies to that side of p with the bit c behind it, if there is one
--   Edge              an edge on the way down: p is done, q is still to come
use Rattle.std.specs.Prelude.{Bool, true, false, not, cond, ◌&&◌, ◌||◌, List, [], ◌∷◌, ◌++◌, ◌≡◌, ℕ, ◌+◌, ◌^◌, ◌≤◌, ◌<◌, ltb, length}
use Rattle.std.specs.Bool.{beq as same}
use Rattle.nets.specs.Bits.{Bits, equal, val}
use Rattle.nets.specs.Tries.{Trie, none, leaf, side, glue, list_of}
use Rattle.nets.specs.Networks.{is_family, width, net_from, bits_left}
use Rattle.nodes.specs.Words.{put}
use Rattle.ranges.specs.Ranges.{range}
use Rattle.ranges.specs.Blocks.{nets_of}
use Rattle.ranges.specs.Addresses.{address_of}
use Rattle.ranges.specs.declared.addresses.Address.{Address}
use Rattle.setfile_format.specs.Files.{file_bytes, most_entries, entries_of, file_of}
use Rattle.trie_paths.specs.Spans.{snoc}
use Rattle.setfile_range.specs.declared.edges.Edge.{Edge}

-- the trie with x on the side of the bit and y on the other
abbrev pub sides : Bool → Trie → Trie → Trie
sides c x y = glue true (side c x y) (side c y x)

unfoldable pub beyond : Bool → Bits → Trie
beyond b [] = none
beyond b (c ∷ p) = sides c (beyond b p) (cond (same c b) leaf none)

unfoldable pub between : Bits → Bits → Trie
between [] q = none
between (c ∷ p) [] = none
between (false ∷ p) (false ∷ q) = sides false (between p q) none
between (false ∷ p) (true ∷ q) = glue true (beyond false p) (beyond true q)
between (true ∷ p) (false ∷ q) = none
between (true ∷ p) (true ∷ q) = sides true (between p q) none

abbrev pub opened : Bool → Bool → Bits → Bits → Trie
opened false false p q = leaf
opened false true p q = beyond true q
opened true false p q = beyond false p
opened true true p q = between p q

unfoldable pub aside : Bool → Bits → Bool → List Bits
aside b p c = cond (same c b) (snoc p (not b) ∷ []) []

-- the same, where the edge is there, and the edges have parted
unfoldable pub aside_of : Bool → Bool → Bool → Bits → Bool → List Bits
aside_of apart there b p c = cond apart (cond there (aside b p c) []) []

-- the networks of one bit more than p and q, where the edges go by the bits c and d there
unfoldable pub asides : Bool → Bool → Bool → Bits → Bits → Bool → Bool → List Bits
asides apart l r p q c d = aside_of apart l false p c ++ aside_of apart r true q d

-- where one edge is missing, or the ways differ
abbrev pub parted : Bool → Bool → Bits → Bits → Bool
parted l r p q = not (l && r) || not (equal p q)

pub record On (f : ℕ) (x : Edge) (p q : Bits) : Type 0 where
  pub path : x.path ≡ net_from f p
  pub ahead : bits_left x.ahead ≡ q
  pub few : x.ahead.len ≤ 128
  pub whole : length (p ++ q) ≡ width f

-- there is room for the entries of l behind n others; and they are written there over u, which leaves v, and are r entries with those
pub record Fits (f : ℕ) (l : List Bits) (n m : ℕ) : Type 0 where
  pub room : file_bytes f (n + length l) ≤ m
  pub few : n + length l ≤ most_entries

pub record Lays (f : ℕ) (l : List Bits) (n : ℕ) (u : List ℕ) (r : ℕ) (v : List ℕ) : Type 0 where
  pub count : r ≡ n + length l
  pub bytes : v ≡ put u (file_bytes f n) (entries_of f l)

-- both edges on the way, by the bits c and d, and as far down
pub record Both (f : ℕ) (x y : Edge) (p q : Bits) (c d : Bool) (r s : Bits) : Type 0 where
  pub left : On f x p (c ∷ r)
  pub right : On f y q (d ∷ s)

-- the edges of a range, before their first bits, and room for its networks
pub record Edges (f : ℕ) (x y : Edge) (p q : Bits) (m : ℕ) : Type 0 where
  pub left : On f x [] p
  pub right : On f y [] q
  pub order : x.there ≡ true → y.there ≡ true → ltb (val p) (val q) ≡ true
  pub fits : Fits f (list_of (opened x.there y.there p q)) 0 m

-- addresses of the family, the first not above the last, and room for the file
pub record Rangeable (f : ℕ) (a b : Address) (m : ℕ) : Type 0 where
  pub family : is_family f ≡ true
  pub order : address_of a ≤ address_of b
  pub high : address_of b < 2 ^ width f
  pub room : 4334 ≤ m

-- the networks of the range from a to b, and their file
abbrev pub span_of : ℕ → Address → Address → List Bits
span_of f a b = nets_of (width f) (range (address_of a) (address_of b))

unfoldable pub range_file : ℕ → Address → Address → List ℕ
range_file f a b = file_of f (span_of f a b)
