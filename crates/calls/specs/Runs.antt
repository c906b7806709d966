-- A run: the calls of the bytes b one after another, until one of them ends it.
--
--   call_bytes b at      the bytes of the call that begins at `at`, its tail included
--   Stepped             what a call leaves that is done, with its answer written
--   Machine, step_of     what a run has come to, and the next call done
--   run_from n b m       n calls more, or less where the run ends before; after length b it has ended
--   Ran, RunsTo         what a run leaves, as the contracts of the inner and of the exported function
use Rattle.std.specs.Prelude.{cond, List, ◌++◌, ◌≡◌, ℕ, zero, suc, ◌+◌, ◌-◌, ◌*◌, eqb, length, take, drop}
use Rattle.nodes.specs.Words.{put}
use Rattle.calls_bytes.specs.Records.{call_at, reply_bytes}
use Rattle.calls_bytes.specs.declared.Call.{Call}
use Rattle.calls_kinds.specs.declared.places.Place.{Place}
use Rattle.calls_kinds.specs.Places.{stop_number, stop_at, past_of}
use Rattle.calls.specs.Effects.{Effect, effect_of}
use Rattle.calls.specs.declared.running.Ended.{Ended}

unfoldable pub call_bytes : List ℕ → ℕ → List ℕ
call_bytes b at = take (35 + (call_at b at).tail) (drop at b)

pub record Stepped (w v s : List ℕ) (c : Call) (o : List ℕ) (to : ℕ) (w' v' o' : List ℕ) : Type 0 where
  pub words : w' ≡ (effect_of w v s c).words
  pub rows : v' ≡ (effect_of w v s c).rows
  pub out : o' ≡ put o to (reply_bytes (effect_of w v s c).reply ++ (effect_of w v s c).tail)

-- the next call is at `at`, its answer goes to `to`, and so many calls are done
pub record Machine : Type 0 where
  pub words : List ℕ
  pub rows : List ℕ
  pub out : List ℕ
  pub at : ℕ
  pub to : ℕ
  pub done : ℕ

abbrev pub machine : List ℕ → List ℕ → List ℕ → ℕ → ℕ → ℕ → Machine
machine w v o at to n = record { words = w; rows = v; out = o; at = at; to = to; done = n }

abbrev pub place_of : Machine → Place
place_of m = record { at = m.at; to = m.to; done = m.done }

abbrev pub stops_at : List ℕ → Machine → ℕ
stops_at b m = stop_at b m.at (length m.rows) (length m.out - m.to)

abbrev pub effect_at : List ℕ → Machine → Effect
effect_at b m = effect_of m.words m.rows (call_bytes b m.at) (call_at b m.at)

unfoldable pub step_of : List ℕ → Machine → Machine
step_of b m =
    let p = past_of (place_of m) (call_at b m.at) in
    machine (effect_at b m).words (effect_at b m).rows (put m.out m.to (reply_bytes (effect_at b m).reply ++ (effect_at b m).tail)) p.at p.to p.done

unfoldable pub run_from : ℕ → List ℕ → Machine → Machine
run_from zero b m = m
run_from (suc n) b m = cond (eqb (stops_at b m) 5) (run_from n b (step_of b m)) m

-- the run of the calls b on the words w and the rows v, with the answers over o
unfoldable pub run_of : List ℕ → List ℕ → List ℕ → List ℕ → Machine
run_of w v b o = run_from (length b) b (machine w v o 0 0 0)

pub record Ran (w v b o : List ℕ) (r : Ended) (w' v' o' : List ℕ) : Type 0 where
  pub why : stop_number r.why ≡ stops_at b (run_of w v b o)
  pub done : r.done ≡ (run_of w v b o).done
  pub to : r.to ≡ (run_of w v b o).to
  pub words : w' ≡ (run_of w v b o).words
  pub rows : v' ≡ (run_of w v b o).rows
  pub out : o' ≡ (run_of w v b o).out

-- the same with the number that the exported function answers
pub record RunsTo (w v b o : List ℕ) (r : ℕ) (w' v' o' : List ℕ) : Type 0 where
  pub answer : r ≡ 8 * (run_of w v b o).done + stops_at b (run_of w v b o)
  pub words : w' ≡ (run_of w v b o).words
  pub rows : v' ≡ (run_of w v b o).rows
  pub out : o' ≡ (run_of w v b o).out
