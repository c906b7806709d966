-- A file by hand: 10.0.0.0/8 and 192.168.0.0/23; and one that is cut off. The list 1, 00, 011 in address order is 00, 011, 1, and has six nodes.
use mathlib.Core.Bool.{true, false}
use mathlib.Core.Path.{◌≡◌, refl}
use mathlib.Core.List.{List, [], ◌∷◌}
use Prim.Native.Nat.{ℕ}
use Rattle.nets.specs.Bits.{Bits, bits, before}
use Rattle.nets.specs.Lists as lists
use Rattle.nets.specs.Networks.{width, net_bits, net_words, has_bit_past, big_endian}
use Rattle.setfile_format.specs.Files.{bytes_of, entry_bytes, file_bytes, entry_of, entries_of, header_of, file_of, head_number, entry_net, is_clean, are_clean, networks_in, is_file_header, are_entries, read_file, file, broken}
use Rattle.address_order.specs.Streams.{put_in_order, in_address_order, shared, more_nodes, path_nodes}

abbrev ten : Bits
ten = net_bits (net_words 4 0 167772160 8)

abbrev two : Bits
two = net_bits (net_words 4 0 3232235520 23)

abbrev bytes : List ℕ
bytes = 0 ∷ 0 ∷ 0 ∷ 4 ∷ 0 ∷ 0 ∷ 0 ∷ 2 ∷ 0 ∷ 0 ∷ 0 ∷ 16 ∷ 0 ∷ 0 ∷ 0 ∷ 26 ∷ 10 ∷ 0 ∷ 0 ∷ 0 ∷ 8 ∷ 192 ∷ 168 ∷ 0 ∷ 0 ∷ 23 ∷ []

pub file-example : file_of 4 (ten ∷ two ∷ []) ≡ bytes
unfolding file_of header_of bytes_of file_bytes entries_of entry_bytes entry_of width net_bits bits
file-example = refl

pub reads : read_file bytes ≡ file 4 (ten ∷ two ∷ [])
unfolding read_file is_file_header head_number big_endian file_bytes entry_bytes width are_entries are_clean is_clean has_bit_past entry_net lists.is_list networks_in before net_bits bits
reads = refl

pub cut : read_file (0 ∷ 0 ∷ 0 ∷ 4 ∷ []) ≡ broken
unfolding read_file is_file_header head_number big_endian
cut = refl

abbrev walked : List Bits
walked = (false ∷ false ∷ []) ∷ (false ∷ true ∷ true ∷ []) ∷ (true ∷ []) ∷ []

pub in_order : in_address_order ((true ∷ []) ∷ (false ∷ false ∷ []) ∷ (false ∷ true ∷ true ∷ []) ∷ []) ≡ walked
unfolding in_address_order put_in_order
in_order = refl

pub six-nodes : path_nodes walked ≡ 6
unfolding path_nodes more_nodes shared
six-nodes = refl
