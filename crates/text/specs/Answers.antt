-- The answers of the calls by the scope document's table, and what a write leaves.
--
--   entered_line s          the line s taken in: its refusal, or the cleared network and whether a bit was cut
--   written_as r            number, count and report of an answer: a refusal reports no
--   line_refusal n room     why a network cannot be written to room bytes, or 0
--   WroteOver k s b old new r   the answer r and the bytes new, where the line s is written over the bytes old: its refusal is k, or 0, and b says whether a bit was cut
--   Wrote n old new r      so for the line of n
use Rattle.std.specs.Prelude.{Bool, false, cond, List, ◌++◌, ◌≡◌, ℕ, eqb, leb, length, drop, Result, Ok, Err}
use Rattle.nets.specs.Networks.{in_range, has_bit_past, taken_in}
use Rattle.nets.specs.Refusals.{number, answered}
use Rattle.nets.specs.declared.Net.{Net}
use Rattle.nets.specs.declared.Refusal.TheVariants.{WrongFamily, BadNetwork, ShortBuffer}
use Rattle.text.specs.Ipv4.{read_line, line_of}
use Rattle.nets.specs.declared.Refusal.{Refusal}

unfoldable pub entered_line : List ℕ → ℕ × (Net × Bool)
entered_line s = taken_in (read_line s).0 (read_line s).1

-- the values stand in pairs to the right
abbrev pub none_written : ℕ × Bool
none_written = (0, false)

abbrev pub written_as : Result (ℕ × Bool) Refusal → ℕ × (ℕ × Bool)
written_as (Ok (k, b)) = (0, (k, b))
written_as (Err r) = (number r, none_written)

unfoldable pub line_refusal : Net → ℕ → ℕ
line_refusal n room =
    cond (eqb n.family 4) (cond (in_range n) (cond (leb (length (line_of n)) room) 0 (number ShortBuffer)) (number BadNetwork)) (number WrongFamily)

-- bytes written over others from the first on
abbrev pub over_bytes : List ℕ → List ℕ → List ℕ
over_bytes s old = s ++ drop (length s) old

pub record WroteOver (no : ℕ) (line : List ℕ) (cut : Bool) (old new : List ℕ) (r : Result (ℕ × Bool) Refusal) : Type 0 where
  pub answer : written_as r ≡ answered no none_written (length line, cut)
  pub bytes : new ≡ cond (eqb no 0) (over_bytes line old) old

abbrev pub Wrote : Net → List ℕ → List ℕ → Result (ℕ × Bool) Refusal → Type 0
Wrote n old new r = WroteOver (line_refusal n (length old)) (line_of n) (has_bit_past n) old new r
