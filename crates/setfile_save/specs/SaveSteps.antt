-- A step of a save: what writing the file of the trie in a seat asks, in either form.
use Rattle.std.specs.Prelude.{List, ◌≡◌, ℕ, ◌≤◌, length}
use Rattle.nets.specs.Tries.{Trie, list_of}
use Rattle.nodes.specs.declared.seats.Seat.{Seat}
use Rattle.trie_paths.specs.Laying.{tallied, clear, Starts}
use Rattle.setfile_format.specs.Files.{file_bytes, most_entries}
use Rattle.listing.specs.Seated.{HeldIn}

-- the trie t stands in the seat s and has n networks, its lengths start at c, and its file fits into m bytes
pub record SavableIn (w : List ℕ) (s : Seat) (n : ℕ) (c : List ℕ) (m : ℕ) (t : Trie) : Type 0 where
  pub holds : HeldIn w s t
  pub count : n ≡ length (list_of t)
  pub few : n ≤ most_entries
  pub starts : Starts (tallied 0 t clear) c
  pub fits : file_bytes s.family n ≤ m
