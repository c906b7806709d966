-- Which code is of which kind, and what a call of a kind asks for.
--
--   table            the codes of docs/CALLS.md in their order, each with its kind;  codes a b K: those from a to b;  code a K: a alone
--   kind_of k         the kind of a code; Unknown where the table doesn't have it
--   Asked            what a call asks for, if it is known: bytes for the tail of its answer, and rows;  asked_as: that of an answer, where None is no known call
--   asks_of c         what a call asks for;  asks_by K b: what one of that kind does
--   tail_length c     how many bytes the tail of its answer has
use Rattle.std.specs.Prelude.{Bool, true, false, cond, ◌&&◌, List, [], ◌∷◌, Option, Some, None, ℕ, ◌*◌, leb}
use Rattle.calls_bytes.specs.declared.Call.{Call}
use Rattle.calls_kinds.specs.declared.Kind.{Kind}
use Rattle.calls_kinds.specs.declared.Kind.TheVariants as kind
use Rattle.calls_kinds.specs.declared.Asks.{Asks}

pub record Codes : Type 0 where
  pub first : ℕ
  pub last : ℕ
  pub kind : Kind

abbrev pub codes : ℕ → ℕ → Kind → Codes
codes a b k = record { first = a; last = b; kind = k }

abbrev pub code : ℕ → Kind → Codes
code a k = codes a a k

unfoldable pub table : List Codes
table =
    code 1 kind.Layout
    ∷ codes 2 7 kind.Report
    ∷ codes 8 13 kind.Change
    ∷ code 14 kind.Report
    ∷ code 15 kind.List
    ∷ code 16 kind.Report
    ∷ code 17 kind.Network
    ∷ code 18 kind.WriteLine
    ∷ code 19 kind.Save
    ∷ code 20 kind.Load
    ∷ code 21 kind.Lines
    ∷ codes 22 24 kind.Report
    ∷ codes 25 27 kind.Change
    ∷ code 28 kind.List
    ∷ codes 29 31 kind.Load
    ∷ codes 32 42 kind.Network
    ∷ code 43 kind.Salvage
    ∷ code 44 kind.Compare
    ∷ code 48 kind.WriteWords
    ∷ code 49 kind.ReadWords
    ∷ []

unfoldable pub kind_in : List Codes → ℕ → Kind
kind_in [] k = kind.Unknown
kind_in (x ∷ xs) k = cond (leb x.first k && leb k x.last) x.kind (kind_in xs k)

unfoldable pub kind_of : ℕ → Kind
kind_of k = kind_in table k

pub record Asked : Type 0 where
  pub known : Bool
  pub bytes : ℕ
  pub rows : ℕ

abbrev pub asked_as : Option Asks → Asked
asked_as None = record { known = false; bytes = 0; rows = 0 }
asked_as (Some a) = record { known = true; bytes = a.bytes; rows = a.rows }

abbrev pub asks : ℕ → ℕ → Asked
asks bytes rows = record { known = true; bytes = bytes; rows = rows }

abbrev pub asks_by : Kind → ℕ → Asked
asks_by kind.Layout b = asks 0 0
asks_by kind.Report b = asks 0 0
asks_by kind.Change b = asks 0 0
asks_by kind.List b = asks (8 * b) b
asks_by kind.Network b = asks 0 0
asks_by kind.WriteLine b = asks b 0
asks_by kind.Save b = asks b 0
asks_by kind.Load b = asks 0 0
asks_by kind.Lines b = asks 0 0
asks_by kind.Compare b = asks 0 0
asks_by kind.WriteWords b = asks 0 0
asks_by kind.ReadWords b = asks (4 * b) 0
asks_by kind.Salvage b = asks b 0
asks_by kind.Unknown b = record { known = false; bytes = 0; rows = 0 }

abbrev pub asks_of : Call → Asked
asks_of c = asks_by (kind_of c.code) c.b

abbrev pub tail_length : Call → ℕ
tail_length c = (asks_of c).bytes
