-- Each call that reads a set answers alike after two histories from states that agree on the set (`two-histories`), and leaves a lent row alike. The free report alone depends on the
-- other sets. Assumes nothing.
use mathlib.Core.List.{List}
use mathlib.Core.Path.{◌≡◌}
use Prim.Native.Nat.{ℕ}
use lib.ListN.{length}
use Rattle.nets.specs.declared.Net.{Net}
use Rattle.pool_state.specs.States.{State, held}
use Rattle.pool_state.specs.Decode.{sound, decode}
use Rattle.pool_state.specs.Rules.{held_rule, plan_rule}
use Rattle.lookup.specs.Rules.{supernet_rule, contains_rule}
use Rattle.compare.specs.Rules.{equal_rule}
use Rattle.histories.specs.Calls.{Call}
use Rattle.histories.specs.Histories.{state_from, History, calls_on, AllAlone, SameAt, SameList}
use Rattle.histories.specs.Readings.{SameReadings}
use Rattle.histories.proofs.Step.{same_at-list}
use Rattle.histories.proofs.Histories.{history-sound}
use Rattle.histories.proofs.TwoHistories.{same_after, two-reports}
use Rattle.histories.proofs.SameReadings.{same-readings, same-equal, same-supernet, same-contains}

-- Two histories with the same calls on set k, from states that agree on it, as in two-histories.
module _ {w z : List ℕ} {S T : State} {cs ds : List Call} {rs ss : List (ℕ × ℕ)} {u v : List ℕ} (d : decode w ≡ sound S) (q : decode z ≡ sound T) (k : ℕ) (same_at : SameAt k S T)
    (h : History w cs rs u) (g : History z ds ss v) (a : AllAlone S k cs) (e : calls_on k cs ≡ calls_on k ds) where
  here : decode u ≡ sound (state_from S cs)
  here = history-sound d h

  there : decode v ≡ sound (state_from T ds)
  there = history-sound q g

  agree : SameAt k (state_from S cs) (state_from T ds)
  agree = same_after d q k same_at h g a e

  pub two-supernet : (n : Net) → supernet_rule u k n ≡ supernet_rule v k n
  two-supernet n = same-supernet u v here there (same_at-list agree) agree.form n

  pub two-contains : (n : Net) → contains_rule u k n ≡ contains_rule v k n
  two-contains n = same-contains u v here there (same_at-list agree) agree.form n

  pub two-readings : SameReadings u v k
  two-readings = same-readings u v here there (same_at-list agree)

  pub two-held : held_rule (decode u) k ≡ held_rule (decode v) k
  unfolding held_rule
  two-held = two-reports d q k same_at h g a e (0, 0) (λ f s. (held s, length s.list))

  pub two-plan : plan_rule (decode u) k ≡ plan_rule (decode v) k
  unfolding plan_rule
  two-plan = two-reports d q k same_at h g a e (0, 0) (λ f s. (s.share, s.limit))

  -- against another set on whose list the two states agree then
  pub two-equal : (j : ℕ) → SameList j (state_from S cs) (state_from T ds) → equal_rule (decode u) k j ≡ equal_rule (decode v) k j
  two-equal j s = same-equal u v here there (same_at-list agree) j s
