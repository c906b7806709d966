-- What a file's tests say of its entries: they are networks of its family, ascending; and in address order those of the trie of its list, where it reads as one. Assumes nothing.
use mathlib.Core.Bool.{Bool, true, false, not, ◌&&◌}
use mathlib.Core.List.{List}
use mathlib.Core.Path.{◌≡◌, sym, ap, ◌∙◌}
use Prim.Native.Nat.{ℕ, ◌≤◌, ◌<◌}
use native.Mathlib.Omega.{arith}
use borrow.Author.Tests.{not-false}
use lib.ListN.{length, get_or}
use Rattle.nets.specs.Bits.{Bits}
use Rattle.nets.specs.Lists.{ascending}
use Rattle.nets.specs.Networks.{width}
use Rattle.nets.specs.Tries.{trie_of}
use Rattle.nets.proofs.Numbers.{family-few}
use Rattle.nets.proofs.Strings.{and_left, and_right}
use Rattle.nets.proofs.TrieOf.{is_list-ascending}
use Rattle.setfile_format.specs.Files.{file_bytes, head_number, are_clean, networks_in, is_file_header, file, read_file}
use Rattle.address_order.specs.Streams.{flat, in_address_order}
use Rattle.setfile_format.proofs.RoundTrip.{read_file-is}
use Rattle.setfile_format.proofs.Reading.{header-family, header-few, header-length}
use Rattle.address_order.proofs.Streams.{flat-order}
use Rattle.setfile_lanes.specs.Lanes.{Ordered}

module _ (d : List ℕ) (bytes : (i : ℕ) → get_or d i 0 < 256) where
  -- after the header and the order
  pub header-ordered : is_file_header d ≡ true → (are_clean (head_number d 0) d 0 (head_number d 1) && ascending (networks_in (head_number d 0) d 0 (head_number d 1))) ≡ true
      → Ordered d (head_number d 0) (head_number d 1)
  header-ordered h o =
      let c = are_clean (head_number d 0) d 0 (head_number d 1) in
      let a = ascending (networks_in (head_number d 0) d 0 (head_number d 1)) in
      record {
        entries = record { family = header-family d h; bytes = bytes; fits = omega (arith, header-length d h); few = header-few d h; clean = and_left c a o };
        ascends = and_right c a o;
      }

  -- of a file
  module _ (f : ℕ) (l : List Bits) (e : read_file d ≡ file f l) where
    pub file-networks : networks_in f d 0 (head_number d 1) ≡ l
    file-networks = let r = read_file-is d f l e in ap (networks_in f d 0) r.numbers.1 ∙ r.networks

    pub file-ordered : Ordered d f (head_number d 1)
    file-ordered =
        let r = read_file-is d f l e in
        let n = r.numbers.1 in
        record {
          entries = record { family = r.family; bytes = bytes; fits = rw n (omega (arith, r.long)); few = rw n r.few; clean = rw n r.clean };
          ascends = rw file-networks (is_list-ascending (width f) l r.list);
        }

    pub file-flat : in_address_order (networks_in f d 0 (head_number d 1)) ≡ flat (trie_of l)
    file-flat = rw file-networks (flat-order (width f) l (read_file-is d f l e).list)

-- a file has a header
pub file-long : (d : List ℕ) (f : ℕ) (l : List Bits) → read_file d ≡ file f l → 16 ≤ length d
unfolding file_bytes
file-long d f l e = omega (arith, (read_file-is d f l e).long)

pub header-tested : (d : List ℕ) {r : Bool} → r ≡ is_file_header d → not r ≡ false → is_file_header d ≡ true
header-tested d e h = sym e ∙ not-false _ h

pub header-long : (d : List ℕ) → is_file_header d ≡ true → 16 ≤ length d
unfolding file_bytes
header-long d h = omega (arith, header-length d h)

pub header-small : (d : List ℕ) → is_file_header d ≡ true → head_number d 0 < 256
header-small d h = omega (arith, family-few (head_number d 0) (header-family d h))
