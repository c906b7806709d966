-- The rules of a header, one broken at a time. Assumes nothing.
use mathlib.Core.Bool.{true, false, ◌&&◌, and-false}
use mathlib.Core.Path.{◌≡◌, sym}
use mathlib.Core.List.{List}
use Prim.Native.Nat.{ℕ, ◌≤◌, ◌<◌}
use native.Mathlib.Omega.{arith}
use lib.Dec.{eqb, leb}
use lib.ListN.{length}
use borrow.Author.Tests.{ne_eqb, eq-eqb, le-leb, lt-leb}
use Rattle.nets.specs.Networks.{is_family}
use Rattle.setfile_format.specs.Files.{most_entries, file_bytes, head_number, is_file_header}

module _ (d : List ℕ) where
  pub header-short : length d < 16 → false ≡ is_file_header d
  unfolding is_file_header file_bytes
  header-short h =
      rw (ne_eqb (length d) (file_bytes (head_number d 0) (head_number d 1)) (λ e. absurd (omega arith)), and-false (eqb (head_number d 3) (length d)), and-false (eqb (head_number d 2) 16))
      (sym (and-false (is_family (head_number d 0) && leb (head_number d 1) most_entries)))

  pub header-family : is_family (head_number d 0) ≡ false → false ≡ is_file_header d
  unfolding is_file_header
  header-family e = rw e

  pub header-many : most_entries < head_number d 1 → false ≡ is_file_header d
  unfolding is_file_header
  header-many h = rw (lt-leb (head_number d 1) most_entries h, and-false (is_family (head_number d 0)))

  pub header-offset : (head_number d 2 ≡ 16 → ⊥) → false ≡ is_file_header d
  unfolding is_file_header
  header-offset e = rw (ne_eqb (head_number d 2) 16 e) (sym (and-false (is_family (head_number d 0) && leb (head_number d 1) most_entries)))

  pub header-length : (head_number d 3 ≡ length d → ⊥) → false ≡ is_file_header d
  unfolding is_file_header
  header-length e =
      rw (ne_eqb (head_number d 3) (length d) e, and-false (eqb (head_number d 2) 16)) (sym (and-false (is_family (head_number d 0) && leb (head_number d 1) most_entries)))

  pub header_is : is_family (head_number d 0) ≡ true → head_number d 1 ≤ most_entries → head_number d 2 ≡ 16 → head_number d 3 ≡ length d
      → eqb (length d) (file_bytes (head_number d 0) (head_number d 1)) ≡ is_file_header d
  unfolding is_file_header
  header_is e h g l = rw (e, le-leb (head_number d 1) most_entries h, eq-eqb (head_number d 2) 16 g, eq-eqb (head_number d 3) (length d) l)
