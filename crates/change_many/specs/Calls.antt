-- The calls that take many networks into a set or out of it, each judged as one change.
--
--   poured_l x l ns       the list l after adding the networks ns one by one (x), or removing them
--   file_rules x S        the rules of a file, read as x, as an argument: 5 a rule of the file is broken, then 6 its family isn't the pool's
--   Poured x w k d r v   from the words w the call with the file d on set k answers r and leaves the words v;  FileAdded, FileRemoved: its two uses
--   span_words f a b c d  the range of the family f from the address of the words a and b to that of c and d
--   range_of s, is_span s  the addresses of a range in words; both of its ends are addresses of its family
--   span_rules s S        the rules of a range as an argument: 6 another family than the pool's, 7 an end that is no address, 12 the first above the last
--   RangeAdded w k s r v from the words w adding the range s to set k answers r and leaves the words v
use Rattle.std.specs.Prelude.{Bool, true, false, not, ◌&&◌, List, [], ◌∷◌, ℕ, ◌^◌, eqb, ltb}
use Rattle.nets.specs.Bits.{Bits}
use Rattle.nets.specs.Lists.{exclude_l}
use Rattle.nets.specs.Networks.{width}
use Rattle.nets.specs.Refusals.{Rule}
use Rattle.nets.specs.declared.Refusal.TheVariants.{BadFile, WrongFamily, BadNetwork, BadRange}
use Rattle.ranges.specs.Ranges.{Range, range}
use Rattle.ranges.specs.Blocks.{add_all, add_range_l}
use Rattle.ranges.specs.Addresses.{address_of}
use Rattle.pool_state.specs.States.{State}
use Rattle.pool_state.specs.Changes.{list_at, Relisted}
use Rattle.setfile_format.specs.Files.{File, broken, file, read_file}
use Rattle.setfile.specs.Loading.{file_list}
use Rattle.change_many.specs.declared.Span.{Span}

abbrev pub poured_l : Bool → List Bits → List Bits → List Bits
poured_l true l ns = add_all l ns
poured_l false l ns = exclude_l l ns

unfoldable pub file_rules : File → State → List Rule
file_rules broken S = (true, BadFile) ∷ []
file_rules (file f l) S = (not (eqb f S.family), WrongFamily) ∷ []

abbrev pub Poured : Bool → List ℕ → ℕ → List ℕ → ℕ × ℕ → List ℕ → Type 0
Poured x w k d r v = Relisted w k (file_rules (read_file d)) (λ S. poured_l x (list_at S k) (file_list (read_file d))) r v

abbrev pub FileAdded : List ℕ → ℕ → List ℕ → ℕ × ℕ → List ℕ → Type 0
FileAdded w k d r v = Poured true w k d r v

abbrev pub FileRemoved : List ℕ → ℕ → List ℕ → ℕ × ℕ → List ℕ → Type 0
FileRemoved w k d r v = Poured false w k d r v

abbrev pub span_words : ℕ → ℕ → ℕ → ℕ → ℕ → Span
span_words f a b c d = record { family = f; first = record { hi = a; lo = b }; last = record { hi = c; lo = d } }

abbrev pub range_of : Span → Range
range_of s = range (address_of s.first) (address_of s.last)

unfoldable pub is_span : Span → Bool
is_span s = ltb (address_of s.first) (2 ^ width s.family) && ltb (address_of s.last) (2 ^ width s.family)

unfoldable pub span_rules : Span → State → List Rule
span_rules s S =
    (not (eqb s.family S.family), WrongFamily) ∷ (not (is_span s), BadNetwork) ∷ (ltb (range_of s).last (range_of s).first, BadRange) ∷ []

abbrev pub RangeAdded : List ℕ → ℕ → Span → ℕ × ℕ → List ℕ → Type 0
RangeAdded w k s r v = Relisted w k (span_rules s) (λ S. add_range_l (width S.family) (list_at S k) (range_of s)) r v
