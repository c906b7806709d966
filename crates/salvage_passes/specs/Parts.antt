-- What is left, counted and written batch by batch: what the steps ask and leave.
--
--   place_at f v n       the place behind the last of n entries
--   Sofar f S t         so many networks are counted of what is left of S, up to the place of t;  Onward: and one batch more
--   Counted             what counting leaves;  Filling: what is written so far
use Rattle.std.specs.Prelude.{true, false, List, ◌≡◌, ℕ, zero, suc, ◌≤◌, ◌<◌, length}
use Rattle.nets.specs.Bits.{Bits}
use Rattle.nets.specs.Lists.{Place, start, past}
use Rattle.nets.specs.Networks.{is_family, net_bits}
use Rattle.setfile_format.specs.Files.{file_bytes, most_entries, entry_net, are_clean, networks_in}
use Rattle.salvage_lists.specs.Ahead.{Part, Whole}
use Rattle.salvage_batch.specs.Buffers.{Ended, place_of, Kept}
use Rattle.salvage_passes.specs.declared.counting.Tail.{Tail}

unfoldable pub place_at : ℕ → List ℕ → ℕ → Place
place_at f v zero = start
place_at f v (suc k) = past (net_bits (entry_net f v k))

pub record Sofar (f : ℕ) (S : List Bits) (t : Tail) : Type 0 where
  pub family : is_family f ≡ true
  pub ended : Ended f t.after
  pub list : List Bits
  pub long : length list ≡ t.count
  pub part : t.more ≡ true → Part S (place_of t.after) list
  pub whole : t.more ≡ false → Whole S list

pub record Onward (f : ℕ) (S : List Bits) (t r : Tail) : Type 0 where
  pub next : Sofar f S r
  pub least : t.count ≤ r.count
  pub grows : r.more ≡ true → t.count < r.count

pub record Counted (f : ℕ) (S : List Bits) (v : List ℕ) (room r : ℕ) (u : List ℕ) : Type 0 where
  pub list : List Bits
  pub whole : Whole S list
  pub long : length list ≡ r
  pub kept : Kept f r v u
  pub same : room ≡ 0 → u ≡ v

pub record Filling (f : ℕ) (S T : List Bits) (m : ℕ) (v u : List ℕ) (done : ℕ) : Type 0 where
  pub family : is_family f ≡ true
  pub few : m ≤ most_entries
  pub fits : file_bytes f m ≤ length u
  pub kept : Kept f m v u
  pub most : done ≤ m
  pub clean : are_clean f u 0 done ≡ true
  pub whole : Whole S T
  pub long : length T ≡ m
  pub part : Part S (place_at f u done) (networks_in f u 0 done)
