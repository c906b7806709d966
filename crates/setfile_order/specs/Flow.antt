-- The networks of a file in address order, by one cursor for each length that the file has.
--
--   check_rule x      what `check` answers of what a file reads as, by number and values: its family and the nodes of its list, or that it is broken
--   head_as f q ms    the first of the networks ms, behind the network q: deep is one more than the leading bits that it shares with q, or 0 where there is none
--   surveyed f ms    what `survey` answers of the networks ms in address order, the same way: their nodes, unless one lies inside another
--   Flow d f c ms    the cursors c have the networks ms of the file d of the family f still to give, in this order: the lanes have them, and stand in the order of their next ones
--   Behind d f c last q ms   so, and last is the network q, behind which they come
use Rattle.std.specs.Prelude.{true, cond, List, [], ◌∷◌, ◌≡◌, ℕ, suc, ◌≤◌, ◌<◌, length, Option, Some, None}
use Rattle.nets.specs.Bits.{Bits}
use Rattle.nets.specs.Lists.{nodes_l}
use Rattle.nets.specs.Networks.{width, net_from, no_net}
use Rattle.nets.specs.Refusals.{number}
use Rattle.nets.specs.declared.Net.{Net}
use Rattle.nets.specs.declared.Refusal.TheVariants.{BadFile}
use Rattle.setfile_format.specs.Files.{File, broken, file}
use Rattle.address_order.specs.Streams.{shared, rising, loose, path_nodes}
use Rattle.setfile_lanes.specs.Lanes.{lane_at, lanes_of, Live, Sorted, Entries, Lanes}
use Rattle.setfile_order.specs.declared.Head.{Head}

-- the number and the values of an answer: of a broken file the refusal's number, and zeros
abbrev pub checked_as : Option (ℕ × ℕ) → ℕ × (ℕ × ℕ)
checked_as (Some (f, n)) = (0, (f, n))
checked_as None = (number BadFile, (0, 0))

unfoldable pub check_rule : File → ℕ × (ℕ × ℕ)
check_rule (file f l) = (0, (f, nodes_l l))
check_rule broken = (number BadFile, (0, 0))

unfoldable pub head_as : ℕ → Bits → List Bits → Head
head_as f q [] = record { deep = 0; net = no_net }
head_as f q (m ∷ ms) = record { deep = suc (shared q m); net = net_from f m }

unfoldable pub surveyed : ℕ → List Bits → ℕ × (ℕ × ℕ)
surveyed f ms = cond (loose ms) (0, (f, path_nodes ms)) (number BadFile, (0, 0))

pub record Flow (d : List ℕ) (f : ℕ) (c : List ℕ) (ms : List Bits) : Type 0 where
  pub n : ℕ
  pub entries : Entries d f n
  pub lanes : Lanes d f n c ms
  pub live : (j : ℕ) → j < lanes_of c → Live (lane_at c j)
  pub sorted : Sorted c 0
  pub rises : rising ms ≡ true

-- and the network last is q, behind which they come
pub record Behind (d : List ℕ) (f : ℕ) (c : List ℕ) (last : Net) (q : Bits) (ms : List Bits) : Type 0 where
  pub flow : Flow d f c ms
  pub net : last ≡ net_from f q
  pub short : length q ≤ width f
