-- The entries of a file as networks, by their numbers in the file. Assumes nothing.
use mathlib.Core.Bool.{true}
use mathlib.Core.List.{List}
use mathlib.Core.Path.{◌≡◌}
use Prim.Native.Nat.{ℕ, ◌≤◌, ◌<◌}
use native.Mathlib.Omega.{arith}
use lib.ListN.{length}
use Rattle.nets.specs.Networks.{width, address, net_from}
use Rattle.setfile_format.specs.Files.{entry_net, is_clean}
use Rattle.setfile_format.proofs.FileOrder.{network_at, network_at-within, are_clean-at, entry_length, entry-number, entry-net_from}
use Rattle.address_order.proofs.Streams.{number}
use Rattle.setfile_lanes.specs.Lanes.{Entries}

module _ {d : List ℕ} {f n : ℕ} (e : Entries d f n) (j : ℕ) (h : j < n) where
  clean : is_clean (entry_net f d j) ≡ true
  clean = are_clean-at f d 0 n j e.clean (omega arith) (omega arith)

  pub read_length : length (network_at f d j) ≡ (entry_net f d j).len
  read_length = entry_length d e.bytes f j clean

  pub read-within : (entry_net f d j).len ≤ width f
  read-within = rw (← read_length) (network_at-within f d j)

  pub read_number : number (width f) (network_at f d j) ≡ address (entry_net f d j)
  read_number = entry-number d e.bytes f j clean

  pub read-net : net_from f (network_at f d j) ≡ entry_net f d j
  read-net = entry-net_from d e.bytes f j clean
