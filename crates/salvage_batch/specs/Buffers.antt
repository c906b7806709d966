-- Entries in a buffer: what the steps of a batch ask and leave. No public contract speaks of it.
--
--   Clean f x         x is a network of the family f, with no bits past its length
--   place_of e         the place behind the network of an edge, or the start;  Ended f e: the network is clean
--   Stands f v n      n entries stand in the bytes v, all clean
--   Kept f n v u      u is v but for the room of n entries
--   Thins, Squeezes   what thinning leaves of n entries, and what sorting and thinning leave
--   Room f v n        the bytes v have room for n entries
--   Holds f v n S a h the entries held, h of them in v of at most n, are what is left so far of S behind the place a, up to the bound of h
--   Gathers           what a pass leaves: a batch of what is left of S behind the place a
use Rattle.std.specs.Prelude.{true, Option, Some, None, List, ◌++◌, ◌≡◌, ℕ, ◌-◌, ◌≤◌, ◌<◌, length, get_or}
use Rattle.std.specs.Option.{is_some}
use Rattle.nets.specs.Bits.{Bits}
use Rattle.nets.specs.Lists.{Place, start, past}
use Rattle.nets.specs.Networks.{is_family, width, net_bits, net_from}
use Rattle.nets.specs.declared.Net.{Net}
use Rattle.setfile_format.specs.Files.{header_bytes, file_bytes, most_entries, are_clean, networks_in}
use Rattle.salvage_lists.specs.Ahead.{thin_behind, thinned, Held, Squeezed, Batch as IsBatch}
use Rattle.salvage_batch.specs.declared.Hold.{Hold}
use Rattle.salvage_batch.specs.declared.Batch.{Batch}
use Rattle.salvage_batch.specs.declared.squeezing.Survivors.{Survivors}

pub record Clean (f : ℕ) (x : Net) : Type 0 where
  pub family : is_family f ≡ true
  pub is : x ≡ net_from f (net_bits x)
  pub short : length (net_bits x) ≤ width f

abbrev pub place_of : Option Net → Place
place_of (Some x) = past (net_bits x)
place_of None = start

abbrev pub Ended : ℕ → Option Net → Type 0
Ended f (Some x) = Clean f x
Ended f None = Unit

pub record Stands (f : ℕ) (v : List ℕ) (n : ℕ) : Type 0 where
  pub family : is_family f ≡ true
  pub few : n ≤ most_entries
  pub fits : file_bytes f n ≤ length v
  pub clean : are_clean f v 0 n ≡ true

pub record Kept (f n : ℕ) (v u : List ℕ) : Type 0 where
  pub long : length u ≡ length v
  pub outside : (m : ℕ) → (header_bytes ≤ m → m < file_bytes f n → ⊥) → get_or u m 0 ≡ get_or v m 0

pub record Thins (f n : ℕ) (v : List ℕ) (r : ℕ) (u : List ℕ) : Type 0 where
  pub kept : Kept f n v u
  pub fewer : r ≤ n
  pub clean : are_clean f u 0 r ≡ true
  pub networks : networks_in f u 0 r ≡ thinned (networks_in f v 0 n)

-- the entries of v before entry i are thinned to those that t has kept, in u
pub record Thinning (f n : ℕ) (v : List ℕ) (i : ℕ) (u : List ℕ) (t : Survivors) : Type 0 where
  pub family : is_family f ≡ true
  pub few : n ≤ most_entries
  pub fits : file_bytes f n ≤ length u
  pub kept : Kept f n v u
  pub some : 1 ≤ t.count
  pub behind : t.count ≤ i
  pub most : i ≤ n
  pub last : Clean f t.last
  pub clean : are_clean f u 0 t.count ≡ true
  pub rest : are_clean f u i (n - i) ≡ true
  pub goes : networks_in f u 0 t.count ++ thin_behind (net_bits t.last) (networks_in f u i (n - i)) ≡ thinned (networks_in f v 0 n)

pub record Squeezes (f n : ℕ) (v : List ℕ) (r : ℕ) (u : List ℕ) : Type 0 where
  pub kept : Kept f n v u
  pub fewer : r ≤ n
  pub some : 1 ≤ n → 1 ≤ r
  pub clean : are_clean f u 0 r ≡ true
  pub networks : Squeezed (networks_in f v 0 n) (networks_in f u 0 r)

pub record Room (f : ℕ) (v : List ℕ) (n : ℕ) : Type 0 where
  pub family : is_family f ≡ true
  pub two : 2 ≤ n
  pub few : n ≤ most_entries
  pub fits : file_bytes f n ≤ length v

pub record Holds (f : ℕ) (v : List ℕ) (n : ℕ) (S : List Bits) (a : Place) (h : Hold) : Type 0 where
  pub room : Room f v n
  pub most : h.count ≤ n
  pub clean : are_clean f v 0 h.count ≡ true
  pub edge : Ended f h.edge
  pub some : is_some h.edge ≡ true → 1 ≤ h.count
  pub held : Held S a (networks_in f v 0 h.count) (place_of h.edge)

pub record Gathers (f : ℕ) (S : List Bits) (a : Place) (n : ℕ) (v : List ℕ) (r : Batch) (u : List ℕ) : Type 0 where
  pub kept : Kept f n v u
  pub most : r.count ≤ n
  pub some : r.more ≡ true → 1 ≤ r.count
  pub clean : are_clean f u 0 r.count ≡ true
  pub batch : IsBatch S a (networks_in f u 0 r.count) r.more
