-- What the inner functions ask.
--
--   Readable d f n      the bytes d have n entries of the family f, and no rule is broken
use Rattle.std.specs.Prelude.{true, List, ◌≡◌, ℕ, ◌≤◌, length}
use Rattle.nets.specs.Networks.{is_family}
use Rattle.setfile_format.specs.Files.{header_bytes, file_bytes, most_entries, head_number}
use Rattle.salvage_lists.specs.Salvaging.{whole_entries}

pub record Readable (d : List ℕ) (f n : ℕ) : Type 0 where
  pub family : f ≡ head_number d 0
  pub known : is_family f ≡ true
  pub whole : n ≡ whole_entries f d
  pub few : n ≤ most_entries
  pub fits : file_bytes f n ≤ length d
  pub long : header_bytes ≤ length d
