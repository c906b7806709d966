-- The paths through the function that reads a line: what it answers, by what was read. Assumes nothing.
use mathlib.Core.Bool.{true, false}
use mathlib.Core.List.{List}
use mathlib.Core.Path.{◌≡◌, ap}
use Prim.Native.Nat.{ℕ, ◌+◌, ◌≤◌, ◌<◌}
use lib.ListN.{length, drop, drop_of_length-le}
use lib.Seq.{drop-cons, drop-drop}
use Rattle.text_decimal.specs.Decimal.{parsed, nothing, read_number}
use Rattle.text.specs.Ipv4.{slash, bad_text}
use Rattle.text_decimal.specs.Places.{starts_byte}
use Rattle.text_ipv6_read.specs.Ipv6.{ipv6}
use Rattle.text_ipv6_read.specs.Reader.{read_address, is_outline, laid, with_length6, line_from, read_line6}
use Rattle.text_ipv6_read.specs.Places.{placed, gap_of, outline_as}
use Rattle.text_ipv6_read.specs.declared.outlines.Outline as declared

module _ (s : List ℕ) (o : declared.Outline) (e : outline_as s o ≡ read_address s) where
  from : line_from (outline_as s o) ≡ read_line6 s
  unfolding read_line6
  from = ap line_from e

  pub line-part : is_outline (outline_as s o) ≡ false → bad_text ≡ read_line6 s
  line-part h = rw h at from

  pub line_other : is_outline (outline_as s o) ≡ true → starts_byte slash (drop o.at s) ≡ false → bad_text ≡ read_line6 s
  line_other h g = rw (h, g) at from

  module _ (h : is_outline (outline_as s o) ≡ true) (g : starts_byte slash (drop o.at s) ≡ true) where
    length-read : with_length6 (laid (placed o) (gap_of o)) (read_number 128 (drop (o.at + 1) s)) ≡ read_line6 s
    length-read = rw (h, g, drop-drop 1 o.at s) at from

    pub line-unread : nothing ≡ read_number 128 (drop (o.at + 1) s) → bad_text ≡ read_line6 s
    line-unread k = rw (← k) at length-read

    pub line-more : (n at : ℕ) → parsed n (drop at s) ≡ read_number 128 (drop (o.at + 1) s) → at < length s → bad_text ≡ read_line6 s
    line-more n at k l = rw (← k, drop-cons s at 0 l) at length-read

    pub line-whole : (n at : ℕ) → parsed n (drop at s) ≡ read_number 128 (drop (o.at + 1) s) → length s ≤ at
        → (0, ipv6 (laid (placed o) (gap_of o)) n) ≡ read_line6 s
    line-whole n at k l = rw (← k, drop_of_length-le s l) at length-read
