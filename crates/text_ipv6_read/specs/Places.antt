-- What the inner functions say of places in bytes: the address that the groups make.
--
--   placed o           the groups of the outline o;  outline_as s o: the outline in the bytes s
--   gap_of o           how many of them stand before the double colon: all, where there is none
--   Sized o            its groups have eight places, and the double colon stands behind some of them
use Rattle.std.specs.Prelude.{List, ◌≡◌, ℕ, ◌≤◌, length, take, drop, Option, is_some, unwrap_or}
use Rattle.text_ipv6_read.specs.Reader.{Outline, outline}
use Rattle.text_ipv6_read.specs.declared.outlines.Outline as declared

abbrev pub outline_words : List ℕ → ℕ → Option ℕ → ℕ → declared.Outline
outline_words xs k g at = record { groups = xs; count = k; gap = g; at = at }

abbrev pub placed : declared.Outline → List ℕ
placed o = take o.count o.groups

abbrev pub gap_of : declared.Outline → ℕ
gap_of o = unwrap_or o.gap o.count

abbrev pub outline_as : List ℕ → declared.Outline → Outline
outline_as s o = outline (placed o) (is_some o.gap) (gap_of o) (drop o.at s)

pub record Sized (o : declared.Outline) : Type 0 where
  pub places : length o.groups ≡ 8
  pub within : o.count ≤ 8
  pub gap : gap_of o ≤ o.count
