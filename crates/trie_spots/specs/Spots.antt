-- How far one has come who goes through a set: before its first network, at one, or behind its last.
--
--   nowhere         a seat in which no network stands, whatever the words are
--   before_all s     before the first network of what stands in the seat s
--   place_in s       the place in the list behind which the next network is looked for
--   gone_on l s      the next spot in the list l: at the network that follows, or, where none does, behind the last
--   StandsIn w s t  the trie t stands in the seat s, its members networks of the seat's family
--   Right s         a network that one has been at is one
--   Goes w s        a trie stands in the seat of s, and one can go on from s
use Rattle.std.specs.Prelude.{◌≡◌, true, false, cond, List, ℕ}
use Rattle.nets.specs.Bits.{Bits}
use Rattle.nets.specs.Tries.{Trie}
use Rattle.nets.specs.Lists.{Place, start, past, Found, found, missing, next_l}
use Rattle.nets.specs.Networks.{net_bits, net_from, refusal_of, no_net}
use Rattle.trie_paths.specs.Spans.{Holds}
use Rattle.nodes.specs.declared.seats.Seat.{Seat}
use Rattle.trie_spots.specs.declared.spots.Spot.{Spot}

abbrev pub nowhere : Seat
nowhere = record { family = 4; base = 0; first = 1; end = 1 }

abbrev pub before_all : Seat → Spot
before_all s = record { seat = s; begun = false; more = false; net = no_net }

unfoldable pub place_in : Spot → Place
place_in s = cond s.begun (past (net_bits s.net)) start

abbrev pub landed : Spot → Found → Spot
landed s (found p) = record { seat = s.seat; begun = true; more = true; net = net_from s.seat.family p }
landed s missing = record { seat = s.seat; begun = s.begun; more = false; net = s.net }

unfoldable pub gone_on : List Bits → Spot → Spot
gone_on l s = landed s (next_l l (place_in s))

abbrev pub StandsIn : List ℕ → Seat → Trie → Type 0
StandsIn w s t = Holds w s.base s.first s.end s.family t

abbrev pub Right : Spot → Type 0
Right s = s.begun ≡ true → refusal_of s.net ≡ 0

pub record Goes (w : List ℕ) (s : Spot) : Type 0 where
  pub trie : Trie
  pub stands : StandsIn w s.seat trie
  pub right : Right s
