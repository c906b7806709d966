-- The paths through the functions that read a piece: what each finds, by what the function that it calls has found. Assumes nothing.
use mathlib.Core.Bool.{true, false, cond}
use mathlib.Core.List.{List}
use mathlib.Core.Path.{◌≡◌, refl, ap, sym, ◌∙◌}
use Prim.Native.Nat.{ℕ, ◌+◌, ◌-◌, ◌*◌, ◌≤◌, ◌<◌}
use native.Mathlib.Omega.{arith}
use lib.Dec.{leb}
use lib.ListN.{length, drop}
use lib.Seq.{drop-drop}
use borrow.Author.Tests.{le-leb, lt-leb}
use Rattle.text_decimal.specs.Spans.{starts_of}
use Rattle.text_decimal.specs.Decimal.{Parsed, parsed, nothing, read_number}
use Rattle.text.specs.Ipv4.{dot, read_next}
use Rattle.text_decimal.specs.Places.{starts_byte}
use Rattle.text_decimal.proofs.Places.{starts-within}
use Rattle.text_hex.specs.Hex.{is_hex_digit, colon}
use Rattle.std.specs.Prelude.{Option}
use Rattle.text_ipv6_runs.specs.Places.{piece_as}
use Rattle.text_ipv6_runs.specs.declared.pieces.Found.{Found}
use Rattle.text_ipv6_runs.specs.Runs.{read_group, read_dotted, Piece, group, quad, none, read_piece, goes_on}

-- Four numbers: the first three, each ended by a dot, then the last.
abbrev pub three : List ℕ → Parsed
three s = read_next dot (read_next dot (read_next dot (parsed 0 s)))

pub read_dotted-nothing : (s : List ℕ) → nothing ≡ three s → nothing ≡ read_dotted s
unfolding read_dotted
read_dotted-nothing s h = rw (← h)

pub read_dotted-unread : (s : List ℕ) (v : ℕ) (t : List ℕ) → parsed v t ≡ three s → nothing ≡ read_number 255 t → nothing ≡ read_dotted s
unfolding read_dotted
read_dotted-unread s v t h k = rw (← h, ← k)

pub read_dotted-read : (s : List ℕ) (v : ℕ) (t : List ℕ) (x : ℕ) (u : List ℕ) → parsed v t ≡ three s → parsed x u ≡ read_number 255 t
    → parsed (v * 256 + x) u ≡ read_dotted s
unfolding read_dotted
read_dotted-read s v t x u h k = rw (← h, ← k)

-- Room for two groups.
pub room-two : (k : ℕ) (p : Parsed) → k ≤ 6 → p ≡ cond (leb 2 (8 - k)) p nothing
room-two k p h = rw (le-leb 2 (8 - k) (omega arith))

pub room-none : (k : ℕ) (p : Parsed) → 6 < k → nothing ≡ cond (leb 2 (8 - k)) p nothing
room-none k p h = rw (lt-leb 2 (8 - k) (omega arith))

-- A piece, by the answer, and by what was read.
pub found : (s : List ℕ) {r y : Option Found} {x : Piece} → r ≡ y → piece_as s r ≡ x → piece_as s y ≡ x
found s e h = sym (ap (piece_as s) e) ∙ h

module _ (k : ℕ) (s : List ℕ) where
  pub read_piece-quad : (v : ℕ) (t : List ℕ) → parsed v t ≡ cond (leb 2 k) (read_dotted s) nothing → quad v t ≡ read_piece k s
  unfolding read_piece
  read_piece-quad v t h = rw (← h)

  pub read_piece-group : (x : ℕ) (t : List ℕ) → nothing ≡ cond (leb 2 k) (read_dotted s) nothing → parsed x t ≡ read_group s → group x t ≡ read_piece k s
  unfolding read_piece
  read_piece-group x t h g = rw (← h, ← g)

  pub read_piece-none : nothing ≡ cond (leb 2 k) (read_dotted s) nothing → nothing ≡ read_group s → none ≡ read_piece k s
  unfolding read_piece
  read_piece-none h g = rw (← h, ← g)

-- A colon and a digit.
pub goes_on-other : (s : List ℕ) → starts_byte colon s ≡ false → false ≡ goes_on s
unfolding goes_on
goes_on-other s e = rw e

pub goes_on-behind : (s : List ℕ) (at : ℕ) → starts_byte colon (drop at s) ≡ true → starts_of is_hex_digit (drop (at + 1) s) ≡ goes_on (drop at s)
unfolding goes_on
goes_on-behind s at e = rw (e, drop-drop 1 at s)

pub goes_on-within : (s : List ℕ) (at : ℕ) → goes_on (drop at s) ≡ true → at < length s
unfolding goes_on starts_byte
goes_on-within s at e = starts-within goes_on refl s at e
