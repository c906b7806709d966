-- The scope document's input of netlist: its lines, and the list of them simplified, by computation over the definitions. Assumes nothing.
use Rattle.std.proofs.Common.{◌≡◌, ℕ, List, [], ◌∷◌, map, refl}
use Prim.Native.Char.{code}
use Prim.Native.String.{String}
use Rattle.nets.specs.Bits.{Bits, bits, before}
use Rattle.nets.specs.Tries.{size, levels, list_of, insert_t, trie_of, simplify_t}
use Rattle.nets.specs.Lists.{nodes_l, add_l, simplify_l}
use Rattle.nets.specs.Networks.{net_bits, has_bit_past, width}
use Rattle.text_decimal.specs.Spans.{all_of, leading_of, behind_of}
use Rattle.text_decimal.specs.Decimal.{is_digit, decimal_from, plain, is_number, read_number}
use Rattle.text.specs.Ipv4.{address, ipv4, read_next, read_quad, read_line}
use Rattle.text_either.specs.Either.{read_either, entered_either}
use Rattle.lines_take.specs.Lines.{lines_of, trimmed_in, with_nets, with_lines}

abbrev bytes : String → List ℕ
bytes String.[] = []
bytes (String.◌∷◌ c s) = code c ∷ bytes s

abbrev input : List ℕ
input = bytes "192.168.0.0/24\n192.168.1.0/24\n10.9.8.7/8\n"

-- the list that is printed
abbrev printed : List Bits
printed = map net_bits (ipv4 (address 10 0 0 0) 8 ∷ ipv4 (address 192 168 0 0) 23 ∷ [])

pub document-lines : lines_of input ≡ map bytes ("192.168.0.0/24" ∷ "192.168.1.0/24" ∷ "10.9.8.7/8" ∷ [])
unfolding lines_of
document-lines = refl

pub document-list : (simplify_l (with_lines [] (lines_of input)) ≡ printed) × (nodes_l printed ≡ 32)
unfolding lines_of with_nets is_digit all_of decimal_from plain is_number leading_of behind_of read_number read_next read_quad read_line read_either net_bits width bits before size levels list_of insert_t trie_of simplify_t add_l simplify_l nodes_l
document-list = (refl, refl)

-- one of the three lines has a set bit past its length
pub document-trimmed : map trimmed_in (lines_of input) ≡ 0 ∷ 0 ∷ 1 ∷ []
unfolding lines_of trimmed_in entered_either is_digit all_of decimal_from plain is_number leading_of behind_of read_number read_next read_quad read_line read_either has_bit_past width
document-trimmed = refl
