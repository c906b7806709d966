-- Set files: a header of four big-endian 32-bit numbers (family, count, offset of the first entry, length of the file in bytes), then the entries, each an address, most significant
-- byte first, and a length.
--
--   bytes_of k n       the k bytes of the number n, the most significant first
--   entry_of f p       the entry of the network p of the family f
--   file_of f l        the file of a list
--   entry_net f d i    entry i of the bytes d, as a network
--   networks_in f d i k    the networks of the k entries from entry i on
--   read_file d        the family and the list of a file, or broken: a rule is broken
use Rattle.std.specs.Prelude.{Bool, true, not, cond, ◌&&◌, List, [], ◌∷◌, ◌++◌, ℕ, zero, suc, ◌+◌, ◌-◌, ◌*◌, ◌/◌, ◌%◌, ◌^◌, eqb, leb, length, get_or, drop}
use Rattle.nets.specs.Bits.{Bits, val}
use Rattle.nets.specs.Lists.{is_list}
use Rattle.nets.specs.Networks.{is_family, width, net_of, net_bits, has_bit_past, big_endian}
use Rattle.nets.specs.declared.Net.{Net}

unfoldable pub bytes_of : ℕ → ℕ → List ℕ
bytes_of zero n = []
bytes_of (suc k) n = n / 256 ^ k % 256 ∷ bytes_of k n

-- the bytes of an address, of an entry, and of a file with so many entries
abbrev pub address_bytes : ℕ → ℕ
address_bytes f = width f / 8

unfoldable pub entry_bytes : ℕ → ℕ
entry_bytes f = address_bytes f + 1

abbrev pub header_bytes : ℕ
header_bytes = 16

unfoldable pub file_bytes : ℕ → ℕ → ℕ
file_bytes f n = header_bytes + entry_bytes f * n

abbrev pub most_entries : ℕ
most_entries = 4194304

unfoldable pub entry_of : ℕ → Bits → List ℕ
entry_of f p = bytes_of (address_bytes f) (val p * 2 ^ (width f - length p)) ++ (length p ∷ [])

unfoldable pub entries_of : ℕ → List Bits → List ℕ
entries_of f [] = []
entries_of f (p ∷ l) = entry_of f p ++ entries_of f l

unfoldable pub header_of : ℕ → ℕ → List ℕ
header_of f n = bytes_of 4 f ++ (bytes_of 4 n ++ (bytes_of 4 header_bytes ++ bytes_of 4 (file_bytes f n)))

unfoldable pub file_of : ℕ → List Bits → List ℕ
file_of f l = header_of f (length l) ++ entries_of f l

-- number k of the header
unfoldable pub head_number : List ℕ → ℕ → ℕ
head_number d k = big_endian 256 (drop (4 * k) d) 4

-- where entry i begins, and its numbers
abbrev pub entry_at : ℕ → ℕ → ℕ
entry_at f i = header_bytes + entry_bytes f * i

unfoldable pub entry_net : ℕ → List ℕ → ℕ → Net
entry_net f d i = net_of f (big_endian 256 (drop (entry_at f i) d) (address_bytes f)) (get_or d (entry_at f i + address_bytes f) 0)

-- a length within the width, and no bits past it
unfoldable pub is_clean : Net → Bool
is_clean n = leb n.len (width n.family) && not (has_bit_past n)

unfoldable pub are_clean : ℕ → List ℕ → ℕ → ℕ → Bool
are_clean f d i zero = true
are_clean f d i (suc k) = is_clean (entry_net f d i) && are_clean f d (suc i) k

unfoldable pub networks_in : ℕ → List ℕ → ℕ → ℕ → List Bits
networks_in f d i zero = []
networks_in f d i (suc k) = net_bits (entry_net f d i) ∷ networks_in f d (suc i) k

-- the rules of the header, and of the entries
unfoldable pub is_file_header : List ℕ → Bool
is_file_header d =
    (is_family (head_number d 0) && leb (head_number d 1) most_entries)
    && (eqb (head_number d 2) header_bytes && (eqb (head_number d 3) (length d) && eqb (length d) (file_bytes (head_number d 0) (head_number d 1))))

unfoldable pub are_entries : ℕ → List ℕ → ℕ → Bool
are_entries f d n = are_clean f d 0 n && is_list (width f) (networks_in f d 0 n)

pub data File : Type 0 where
  broken : File
  file : ℕ → List Bits → File

unfoldable pub read_file : List ℕ → File
read_file d =
    cond (is_file_header d && are_entries (head_number d 0) d (head_number d 1)) (file (head_number d 0) (networks_in (head_number d 0) d 0 (head_number d 1))) broken
