-- The walk through a set, as functions of the words that it holds.
--
--   walk_no d k       the number of a walk through set k: 2 damaged, 3 no such set, else 0
--   list_in d k       the list that it goes through: where it is refused, the empty list
--   begin_in d k      where it begins: before the first network of the set's seat, or nowhere
--   walk_start p k     the walk that is made
--   walk_on w         the walk one step further: at the next network, or behind the last
--   Walking w        w was made, and has come to a network of its list or is still before the first
--   through n w      the networks that n steps come past, until there is no more
use Rattle.std.specs.Prelude.{◌≡◌, Bool, true, false, cond, List, [], ◌∷◌, ℕ, zero, suc, leb, length}
use Rattle.std.specs.Borrow.{Bor}
use Rattle.nets.specs.Bits.{Bits}
use Rattle.nets.specs.Refusals.{first_no}
use Rattle.nets.specs.declared.Net.{Net}
use Rattle.pool_state.specs.Decode.{Decoded, damaged, sound, decode}
use Rattle.pool_state.specs.Changes.{list_at}
use Rattle.pool_state.specs.Rules.{unknown, seat_at}
use Rattle.nodes.specs.declared.seats.Seat.{Seat}
use Rattle.trie_spots.specs.Spots.{nowhere, before_all, gone_on}
use Rattle.kept_spots.specs.Onward.{KeptRight}
use Rattle.walk.specs.declared.beginning.Stage.{Stage}
use Rattle.walk.specs.declared.walking.Walk.{Walk}

unfoldable pub walk_no : Decoded → ℕ → ℕ
walk_no damaged k = 2
walk_no (sound S) k = first_no (unknown S k ∷ [])

unfoldable pub list_in : Decoded → ℕ → List Bits
list_in damaged k = []
list_in (sound S) k = cond (leb (length S.sets) k) [] (list_at S k)

unfoldable pub seat_in : Decoded → ℕ → Seat
seat_in damaged k = nowhere
seat_in (sound S) k = cond (leb (length S.sets) k) nowhere (seat_at S k)

abbrev pub begin_in : Decoded → ℕ → Stage
begin_in d k = record { spot = before_all (seat_in d k); no = walk_no d k }

abbrev pub walk_start : Bor (List ℕ) → ℕ → Walk
walk_start p k = record { pool = p; spot = before_all (seat_in (decode p.now) k); set = k; no = walk_no (decode p.now) k }

abbrev pub walk_on : Walk → Walk
walk_on w = record { pool = w.pool; spot = gone_on (list_in (decode w.pool.now) w.set) w.spot; set = w.set; no = w.no }

pub record Walking (w : Walk) : Type 0 where
  pub seat : w.spot.seat ≡ seat_in (decode w.pool.now) w.set
  pub right : KeptRight w.spot

abbrev pub pass : Bool → Net → List Net → List Net
pass true n l = n ∷ l
pass false n l = []

unfoldable pub through : ℕ → Walk → List Net
through zero w = []
through (suc n) w = pass (walk_on w).spot.more (walk_on w).spot.net (through n (walk_on w))
