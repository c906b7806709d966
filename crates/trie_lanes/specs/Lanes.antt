-- Walks side by side: where one stands, what it is for it to go on, and walks in a row of numbers.
--
--   comes l               the bits of the first word that are still to come
--   On b n l              the walk l stands at a node
--   Goes w b n l r        a walk at l may go on to r: from there the path shows what it shows from l, whatever comes behind the first word
--   lane_at, keep_at        walk a of a row of numbers, and the row with a walk written
--   AllOn, AllGo, Moved   the first e walks of a row stand at nodes; they may go on from one row to the other; walk a may, and the others stay
--   Live e k ys           the first k entries of the row ys are numbers of walks, of which there are e
use Rattle.std.specs.Prelude.{List, ◌++◌, ◌≡◌, ℕ, ◌+◌, ◌-◌, ◌*◌, ◌≤◌, ◌<◌, length, get_or, set}
use Rattle.nets.specs.Bits.{Bits}
use Rattle.nets.specs.Networks.{bits_left, bits_words}
use Rattle.trie_lookup.specs.Walks.{walk}
use Rattle.trie_lanes.specs.declared.Lane.{Lane}

unfoldable pub comes : Lane → Bits
comes l = bits_left (bits_words l.word 0 l.left)

pub record On (b n : ℕ) (l : Lane) : Type 0 where
  pub low : b ≤ l.p
  pub within : l.p < b + n
  pub few : l.left ≤ 64

pub record Goes (w : List ℕ) (b n : ℕ) (l r : Lane) : Type 0 where
  pub on : On b n r
  pub less : r.left ≤ l.left
  pub shows : (d : ℕ) (z : Bits) → walk w b n d (l.p + 1 - b) (comes l ++ z) ≡ walk w b n (d + (l.left - r.left)) (r.p + 1 - b) (comes r ++ z)

-- walk a of a row of numbers, three for each; and the row with another walk there
abbrev pub lane_at : List ℕ → ℕ → Lane
lane_at xs a = record { p = get_or xs (3 * a) 0; word = get_or xs (3 * a + 1) 0; left = get_or xs (3 * a + 2) 0 }

abbrev pub keep_at : List ℕ → ℕ → Lane → List ℕ
keep_at xs a l = set (set (set xs (3 * a) l.p) (3 * a + 1) l.word) (3 * a + 2) l.left

pub record Wide (xs : List ℕ) : Type 0 where
  pub is : length xs ≡ 96

pub record AllOn (b n e : ℕ) (xs : List ℕ) : Type 0 where
  pub wide : Wide xs
  pub few : e ≤ 32
  pub each : (a : ℕ) → a < e → On b n (lane_at xs a)

pub record AllGo (w : List ℕ) (b n e : ℕ) (xs ys : List ℕ) : Type 0 where
  pub wide : Wide ys
  pub each : (a : ℕ) → a < e → Goes w b n (lane_at xs a) (lane_at ys a)

pub record Moved (w : List ℕ) (b n a : ℕ) (xs ys : List ℕ) : Type 0 where
  pub wide : Wide ys
  pub goes : Goes w b n (lane_at xs a) (lane_at ys a)
  pub others : (j : ℕ) → (j ≡ a → ⊥) → lane_at ys j ≡ lane_at xs j

pub record Live (e k : ℕ) (ys : List ℕ) : Type 0 where
  pub wide : length ys ≡ 32
  pub few : k ≤ 32
  pub each : (j : ℕ) → j < k → get_or ys j 0 < e
