-- Where one can go on who goes through a set whose trie is in the second form.
--
--   KeptStandsIn w s t  the trie t stands in the seat s, its members networks of the seat's family; no node behind it is read
--   KeptRight s         a network that one has been at is one of the seat's family, with no bit past its length
--   KeptGoes w s        a trie stands in the seat of s, and one can go on from s
use Rattle.std.specs.Prelude.{true, List, ◌≡◌, ℕ, ◌-◌}
use Rattle.nets.specs.Tries.{Trie}
use Rattle.nodes.specs.declared.seats.Seat.{Seat}
use Rattle.setfile_entries.specs.Entries.{Entry}
use Rattle.trie_spots.specs.declared.spots.Spot.{Spot}
use Rattle.kept_list.specs.Listed.{KeptHolds}

abbrev pub KeptStandsIn : List ℕ → Seat → Trie → Type 0
KeptStandsIn w s t = KeptHolds s.family w s.base (s.end - 1) s.first s.end t

abbrev pub KeptRight : Spot → Type 0
KeptRight s = s.begun ≡ true → Entry s.seat.family s.net

pub record KeptGoes (w : List ℕ) (s : Spot) : Type 0 where
  pub trie : Trie
  pub stands : KeptStandsIn w s.seat trie
  pub right : KeptRight s
