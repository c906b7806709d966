-- The salvage of a file: the number of the answer and its values, and the bytes left, as functions of the bytes d of the file and of the output v.
--
--   family_of d, entries_of d     the family of the header, and the entries in range, cleared
--   left_of d, saved_of d         what is left of them, and its file
--   salvage_rules d n            5 less than 16 bytes, a family other than 4 and 6, more entries than a file may have; then 11 fewer bytes in the output, n, than the file has
--   counts_of d                  entries read, trimmed, dropped for their length, dropped as covered, and bytes written
--   Salvages d v r u            from the bytes d and the output v a salvage answers r and leaves the output u
use Rattle.std.specs.Prelude.{not, cond, List, [], ◌∷◌, ◌≡◌, ℕ, eqb, ltb, length, Result, Ok, Err}
use Rattle.nets.specs.Bits.{Bits}
use Rattle.nets.specs.Networks.{is_family}
use Rattle.nets.specs.Refusals.{number, answered, Rule, first_no}
use Rattle.nets.specs.declared.Refusal.TheVariants.{BadFile, ShortBuffer}
use Rattle.nodes.specs.Words.{put}
use Rattle.setfile_format.specs.Files.{header_bytes, most_entries, file_of, head_number}
use Rattle.salvage_lists.specs.Salvaging.{whole_entries, in_range_in, long_in, trimmed_in, covered_in, outermost}
use Rattle.salvage.specs.declared.Counts.{Counts}
use Rattle.nets.specs.declared.Refusal.{Refusal}

abbrev pub family_of : List ℕ → ℕ
family_of d = head_number d 0

abbrev pub read_of : List ℕ → ℕ
read_of d = whole_entries (family_of d) d

abbrev pub entries_of : List ℕ → List Bits
entries_of d = in_range_in (family_of d) d 0 (read_of d)

unfoldable pub left_of : List ℕ → List Bits
left_of d = outermost (entries_of d)

unfoldable pub saved_of : List ℕ → List ℕ
saved_of d = file_of (family_of d) (left_of d)

unfoldable pub salvage_rules : List ℕ → ℕ → List Rule
salvage_rules d n =
    (ltb (length d) header_bytes, BadFile)
    ∷ (not (is_family (family_of d)), BadFile)
    ∷ (ltb most_entries (read_of d), BadFile)
    ∷ (ltb n (length (saved_of d)), ShortBuffer)
    ∷ []

abbrev pub counts_as : ℕ → ℕ → ℕ → ℕ → ℕ → Counts
counts_as n t l c b = record { read = n; trimmed = t; long = l; covered = c; bytes = b }

unfoldable pub counts_of : List ℕ → Counts
counts_of d =
    counts_as (read_of d) (trimmed_in (family_of d) d 0 (read_of d)) (long_in (family_of d) d 0 (read_of d)) (covered_in (entries_of d)) (length (saved_of d))

abbrev pub no_counts : Counts
no_counts = counts_as 0 0 0 0 0

-- the number and the values of an answer: a refusal has its number and zeros
abbrev pub salvaged_as : Result Counts Refusal → ℕ × Counts
salvaged_as (Ok c) = (0, c)
salvaged_as (Err r) = (number r, no_counts)

unfoldable pub salvage_rule : List ℕ → ℕ → ℕ × Counts
salvage_rule d n = answered (first_no (salvage_rules d n)) no_counts (counts_of d)

unfoldable pub salvage_left : List ℕ → List ℕ → List ℕ
salvage_left d v = cond (eqb (first_no (salvage_rules d (length v))) 0) (put v 0 (saved_of d)) v

pub record Salvages (d v : List ℕ) (r : Result Counts Refusal) (u : List ℕ) : Type 0 where
  pub answer : salvaged_as r ≡ salvage_rule d (length v)
  pub bytes : u ≡ salvage_left d v
