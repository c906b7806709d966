-- What a salvage does, as its users would say it: two outcomes are equal; what is written and what is dropped are what was read; what is written reads back as what is left, which covers the
-- same addresses; a good file comes out unchanged, and so does what a salvage wrote. Assumes nothing.
use mathlib.Core.Bool.{true}
use mathlib.Core.List.{List}
use mathlib.Core.Path.{◌≡◌, refl, ap, sym, ◌∙◌}
use Prim.Native.Nat.{ℕ, ◌+◌, ◌-◌, ◌*◌, ◌≤◌}
use native.Mathlib.Nat.{mul_comm, mul-div_left}
use native.Mathlib.Omega.{arith}
use lib.ListN.{length, get_or}
use Rattle.nets.specs.Bits.{Bits}
use Rattle.nets.specs.Lists.{covers, is_list}
use Rattle.nets.specs.Networks.{is_family, width}
use Rattle.nets.proofs.Answers.{number-one, number-some}
use Rattle.nodes.specs.Words.{put}
use Rattle.nodes.proofs.Put.{get_or-put-behind}
use Rattle.setfile_format.specs.Files.{header_bytes, entry_bytes, file_bytes, most_entries, file_of, file, read_file}
use Rattle.setfile_format.proofs.Bytes.{Bytes}
use Rattle.setfile_format.proofs.Written.{length-file_of, read_file-file_of}
use Rattle.setfile_format.proofs.RoundTrip.{IsFile, read_file-is, read_file-only}
use Rattle.salvage_lists.specs.Salvaging.{whole_entries, outermost}
use Rattle.salvage_lists.proofs.Left.{covers-outermost, is_list-outermost, outermost-list}
use Rattle.salvage_lists.proofs.Counts.{covered-outermost, covered-list, length-in_range_in, within-in_range_in, clean-in_range_in}
use Rattle.salvage.specs.Calls.{family_of, read_of, entries_of, left_of, saved_of, counts_as, counts_of, salvaged_as, salvage_rule, salvage_left, Salvages}
use Rattle.salvage.proofs.Returns.{entry-some, no_none}
use Rattle.std.specs.Prelude.{Result, Ok, Err}
use Rattle.nets.specs.declared.Refusal.{Refusal}
use Rattle.salvage.specs.declared.Counts.{Counts}

salvaged_as-one : (r s : Result Counts Refusal) → salvaged_as r ≡ salvaged_as s → r ≡ s
salvaged_as-one (Ok m) (Ok n) e = ap Ok (ap (λ p. p.1) e)
salvaged_as-one (Ok m) (Err y) e = absurd (number-some y (sym (ap (λ p. p.0) e)))
salvaged_as-one (Err x) (Ok n) e = absurd (number-some x (ap (λ p. p.0) e))
salvaged_as-one (Err x) (Err y) e = ap Err (number-one x y (ap (λ p. p.0) e))

pub salvage-determined : {d v u x : List ℕ} {r s : (Result Counts Refusal)} → Salvages d v r u → Salvages d v s x → (r ≡ s) × (u ≡ x)
salvage-determined {r = r} {s = s} g h = (salvaged_as-one r s (g.answer ∙ sym h.answer), g.bytes ∙ sym h.bytes)

-- Granted: the file stands at the front of the output, and behind it all is as it was.
module _ {d v u : List ℕ} {r : (Result Counts Refusal)} (s : Salvages d v r u) (h : header_bytes ≤ length d) (e : is_family (family_of d) ≡ true) (m : read_of d ≤ most_entries) (l : length (saved_of d) ≤ length v) where
  pub salvage-file : (r ≡ Ok (counts_of d)) × (u ≡ put v 0 (saved_of d))
  unfolding salvage_rule salvage_left
  salvage-file =
      let z = no_none d (length v) h e m l in
      (salvaged_as-one r (Ok (counts_of d)) (s.answer ∙ rw z), s.bytes ∙ rw z)

  pub salvage-past : (i : ℕ) → length (saved_of d) ≤ i → get_or u i 0 ≡ get_or v i 0
  salvage-past i k = rw salvage-file.1 (get_or-put-behind v 0 (saved_of d) i (omega arith))

-- Written plus dropped is read.
pub salvage-counts : (d : List ℕ) → length (left_of d) + (counts_of d).long + (counts_of d).covered ≡ (counts_of d).read
unfolding left_of counts_of
salvage-counts d =
    omega (arith, covered-outermost (entries_of d), length-in_range_in (family_of d) d 0 (read_of d))

-- What is left is a list of the family, its file reads back, and it covers what the entries in range do.
module _ (d : List ℕ) where
  pub left-list : is_list (width (family_of d)) (left_of d) ≡ true
  unfolding left_of
  left-list = is_list-outermost (width (family_of d)) (entries_of d) (within-in_range_in (family_of d) d 0 (read_of d))

  pub left-covers : (a : Bits) → covers (left_of d) a ≡ covers (entries_of d) a
  unfolding left_of
  left-covers a = covers-outermost (entries_of d) a

  left-few : read_of d ≤ most_entries → length (left_of d) ≤ most_entries
  unfolding left_of
  left-few m = omega (arith, covered-outermost (entries_of d), length-in_range_in (family_of d) d 0 (read_of d))

  pub saved-reads : is_family (family_of d) ≡ true → read_of d ≤ most_entries → read_file (saved_of d) ≡ file (family_of d) (left_of d)
  unfolding saved_of
  saved-reads e m = read_file-file_of (family_of d) (left_of d) e left-list (left-few m)

-- A file has all its entries, none of them is a stray, and all are left.
module _ (d : List ℕ) {f : ℕ} {l : List Bits} (r : read_file d ≡ file f l) where
  is : IsFile d f l
  is = read_file-is d f l r

  family : family_of d ≡ f
  family = is.numbers.0

  read : whole_entries f d ≡ length l
  unfolding whole_entries file_bytes
  read =
      let s = entry_bytes f in
      let k : length d - header_bytes ≡ s * length l = omega (arith, is.long) in
      rw (k, mul_comm s (length l)) (mul-div_left (length l) (entry-some d f refl))

  entries : entries_of d ≡ l
  entries = rw (family, read) ((clean-in_range_in f d 0 (length l) is.clean).0 ∙ is.networks)

  pub good_left : left_of d ≡ l
  unfolding left_of
  good_left = ap outermost entries ∙ outermost-list (width f) l is.list

  pub good-saved : saved_of d ≡ file_of f l
  unfolding saved_of
  good-saved = rw (family, good_left)

  pub good-counts : counts_of d ≡ counts_as (length l) 0 0 0 (length d)
  unfolding counts_of
  good-counts =
      let c = clean-in_range_in f d 0 (length l) is.clean in
      let b : length (saved_of d) ≡ length d = ap length good-saved ∙ length-file_of f l ∙ sym is.long in
      rw (b, entries, covered-list (width f) l is.list, family, read, c.1, c.2)

  -- byte for byte
  pub good-same : Bytes d → saved_of d ≡ d
  good-same bytes = good-saved ∙ sym (read_file-only d bytes f l r)

-- Salvage of its own output changes nothing, and nothing is trimmed or dropped.
module _ (d : List ℕ) (e : is_family (family_of d) ≡ true) (m : read_of d ≤ most_entries) where
  pub again-same : saved_of (saved_of d) ≡ saved_of d
  unfolding saved_of
  again-same = good-saved (saved_of d) (saved-reads d e m)

  pub again-counts : counts_of (saved_of d) ≡ counts_as (length (left_of d)) 0 0 0 (length (saved_of d))
  again-counts = good-counts (saved_of d) (saved-reads d e m)
