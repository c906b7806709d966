-- Reading a line from its first byte on: the groups up to a double colon, those behind it, the length. proofs/Grammar shows that exactly the lines of the
-- grammar are read.
--
--   read_address s      the groups up to a double colon and behind it
--   is_outline o        these make eight groups: all of them, or at most seven around a double colon
--   laid xs g          the groups xs, g of them before the zeros that a double colon stands for
--   read_line6 s        the network of the line s, or the refusal of bytes that are none
--   entered_line6 s     the line s taken in: its refusal, or the cleared network and whether a bit was cut
use Rattle.std.specs.Prelude.{Bool, true, false, not, cond, ◌&&◌, List, [], ◌∷◌, ◌++◌, ℕ, ◌-◌, eqb, leb, length, take, drop, replicate}
use Rattle.nets.specs.Networks.{taken_in}
use Rattle.nets.specs.declared.Net.{Net}
use Rattle.text_decimal.specs.Decimal.{Parsed, parsed, nothing, read_number}
use Rattle.text_decimal.specs.Places.{starts_byte}
use Rattle.text.specs.Ipv4.{slash, bad_text}
use Rattle.text_hex.specs.Hex.{colon}
use Rattle.text_ipv6_runs.specs.Runs.{Ran, run_from}
use Rattle.text_ipv6_read.specs.Ipv6.{ipv6}

-- the groups of an address, whether there is a double colon, how many stand before it, and what follows the address
pub record Outline : Type 0 where
  pub groups : List ℕ
  pub short : Bool
  pub gap : ℕ
  pub rest : List ℕ

abbrev pub outline : List ℕ → Bool → ℕ → List ℕ → Outline
outline xs b g t = record { groups = xs; short = b; gap = g; rest = t }

unfoldable pub starts_double : List ℕ → Bool
starts_double s = starts_byte colon s && starts_byte colon (drop 1 s)

-- behind a run that a double colon ends, and any other
abbrev pub behind_run : Ran → Ran → Outline
behind_run f b = outline b.groups true (length f.groups) b.rest

abbrev pub whole_run : Ran → Outline
whole_run f = outline f.groups false (length f.groups) f.rest

abbrev pub address_from : Ran → Outline
address_from f =
    cond (starts_double f.rest && not f.quad) (behind_run f (run_from (8 - length f.groups) f.groups (drop 2 f.rest))) (whole_run f)

unfoldable pub read_address : List ℕ → Outline
read_address s = address_from (run_from 8 [] s)

unfoldable pub is_outline : Outline → Bool
is_outline o = cond o.short (leb (length o.groups) 7) (eqb (length o.groups) 8)

unfoldable pub laid : List ℕ → ℕ → List ℕ
laid xs g = take g xs ++ (replicate (8 - length xs) 0 ++ drop g xs)

-- the network of groups and the length that was read, if nothing follows
abbrev pub with_length6 : List ℕ → Parsed → ℕ × Net
with_length6 xs (parsed n []) = (0, ipv6 xs n)
with_length6 xs (parsed n (c ∷ s)) = bad_text
with_length6 xs nothing = bad_text

abbrev pub line_from : Outline → ℕ × Net
line_from o = cond (is_outline o && starts_byte slash o.rest) (with_length6 (laid o.groups o.gap) (read_number 128 (drop 1 o.rest))) bad_text

unfoldable pub read_line6 : List ℕ → ℕ × Net
read_line6 s = line_from (read_address s)

unfoldable pub entered_line6 : List ℕ → ℕ × (Net × Bool)
entered_line6 s = taken_in (read_line6 s).0 (read_line6 s).1
