-- What stands in a seat of a pool, in the form that the pool is kept in.
--
--   HeldIn w s t         the trie t stands in the seat s, its members networks of the seat's family
--   LayableIn w s c m t  and its lengths start at c, and its rows have their places in m numbers
--   GoesIn w s           a trie stands in the seat of s, and one can go on from s
use Rattle.std.specs.Prelude.{true, List, ◌≡◌, ℕ, ◌*◌, ◌≤◌, length}
use Rattle.nets.specs.Networks.{is_family}
use Rattle.nets.specs.Tries.{Trie, list_of}
use Rattle.nodes.specs.declared.seats.Seat.{Seat}
use Rattle.pool_state.specs.Kept.{first, second}
use Rattle.pool_state.specs.Decode.{form_in}
use Rattle.trie_paths.specs.Laying.{tallied, clear, Starts}
use Rattle.trie_spots.specs.Spots.{StandsIn}
use Rattle.trie_spots.specs.declared.spots.Spot.{Spot}
use Rattle.kept_spots.specs.Onward.{KeptStandsIn, KeptRight}

pub record HeldIn (w : List ℕ) (s : Seat) (t : Trie) : Type 0 where
  pub stands : form_in w ≡ first → StandsIn w s t
  pub kept : form_in w ≡ second → KeptStandsIn w s t

pub record LayableIn (w : List ℕ) (s : Seat) (c : List ℕ) (m : ℕ) (t : Trie) : Type 0 where
  pub holds : HeldIn w s t
  pub starts : Starts (tallied 0 t clear) c
  pub fits : 3 * length (list_of t) ≤ m

pub record GoesIn (w : List ℕ) (s : Spot) : Type 0 where
  pub trie : Trie
  pub holds : HeldIn w s.seat trie
  pub family : is_family s.seat.family ≡ true
  pub right : KeptRight s
