-- Why a run ends at a call: the numbers of docs/CALLS.md, the smallest that applies; 5 where the call is done. And where the next call begins.
--
--   stop_number s             the number of a reason;  stop_as: that of an answer, where None is 5
--   stop_of c rows room       a call by its fixed part, the rows that are lent and the bytes that are left for answers
--   stop_at b at rows room    the bytes b from `at` on: no call, one that is cut off, or one that is judged
--   past_of p c               the place past a call that is done;  Room p c: its numbers have room in 64 bits
use Rattle.std.specs.Prelude.{cond, List, Option, Some, None, ℕ, ◌+◌, ◌<◌, ◌^◌, leb, length}
use Rattle.calls_bytes.specs.Records.{call_at}
use Rattle.calls_bytes.specs.declared.Call.{Call}
use Rattle.calls_kinds.specs.Kinds.{asks_of, tail_length}
use Rattle.calls_kinds.specs.declared.places.Place.{Place}
use Rattle.calls_kinds.specs.declared.places.Stop.{Stop}
use Rattle.calls_kinds.specs.declared.places.Stop.TheVariants as stop

abbrev pub stop_number : Stop → ℕ
stop_number stop.Whole = 0
stop_number stop.Cut = 1
stop_number stop.Unknown = 2
stop_number stop.Full = 3
stop_number stop.Rows = 4

abbrev pub stop_as : Option Stop → ℕ
stop_as None = 5
stop_as (Some s) = stop_number s

unfoldable pub stop_of : Call → ℕ → ℕ → ℕ
stop_of c rows room =
    cond (asks_of c).known (cond (leb (28 + (asks_of c).bytes) room) (cond (leb (asks_of c).rows rows) 5 4) 3) 2

unfoldable pub stop_at : List ℕ → ℕ → ℕ → ℕ → ℕ
stop_at b at rows room =
    cond (leb (length b) at) 0
    (cond (leb (at + 35) (length b)) (cond (leb (at + 35 + (call_at b at).tail) (length b)) (stop_of (call_at b at) rows room) 1) 1)

abbrev pub past_of : Place → Call → Place
past_of p c = record { at = p.at + 35 + c.tail; to = p.to + 28 + tail_length c; done = p.done + 1 }

pub record Room (p : Place) (c : Call) : Type 0 where
  pub at : p.at + 35 + c.tail < 2 ^ 64
  pub to : p.to + 28 + tail_length c < 2 ^ 64
  pub done : p.done + 1 < 2 ^ 64
