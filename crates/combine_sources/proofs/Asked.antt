-- What a combination asks first: what `ask` finds, a law for each return, and the state of the pool where it goes on. Assumes nothing.
use mathlib.Core.List.{List, []}
use mathlib.Core.Path.{◌≡◌}
use Prim.Native.Nat.{ℕ, ◌≤◌, ◌<◌}
use native.Mathlib.Omega.{arith}
use lib.ListN.{length, get_or}
use borrow.Author.Tests.{le-leb, lt-leb}
use Rattle.nets.specs.Networks.{width}
use Rattle.nets.specs.Refusals.{number, first_no}
use Rattle.nets.specs.declared.Refusal.{Refusal}
use Rattle.nets.specs.declared.Refusal.TheVariants.{NoSet, Occupied}
use Rattle.nets.proofs.Answers.{number-some}
use Rattle.pool_state.specs.States.{State}
use Rattle.pool_state.specs.Decode.{decode}
use Rattle.pool_state.specs.Changes.{list_at}
use Rattle.pool_state.specs.Steps.{Refuses, Surveyed}
use Rattle.pool_state.specs.declared.Survey.{Survey}
use Rattle.pool_state.proofs.Decoded.{decode-header}
use Rattle.pool_state.proofs.Seen.{Seen, seen, seen-empty, seen-some}
use Rattle.pool_state.proofs.Returns.{is_empty-some, change-seat, change-args, changed}
use Rattle.combine_sources.specs.Rules.{combine_rules}
use Rattle.combine_sources.specs.Steps.{Operation, Ready, Asks, Started, sources_of}
use Rattle.combine_sources.specs.declared.Sources.{Sources}
use Rattle.std.specs.Prelude.{Result, Ok, Err}

-- The number that the three sets get.
module _ (to first second : ℕ) (S : State) where
  no-first : length S.sets ≤ first → first_no (combine_rules to first second S) ≡ 3
  unfolding combine_rules
  no-first le = rw (le-leb (length S.sets) first le)

  module _ (lt : first < length S.sets) where
    no_second : length S.sets ≤ second → first_no (combine_rules to first second S) ≡ 3
    unfolding combine_rules
    no_second le = rw (lt-leb (length S.sets) first lt, le-leb (length S.sets) second le)

    module _ (ls : second < length S.sets) where
      no-empty : (list_at S to ≡ [] → ⊥) → first_no (combine_rules to first second S) ≡ 8
      unfolding combine_rules
      no-empty ne = rw (lt-leb (length S.sets) first lt, lt-leb (length S.sets) second ls, is_empty-some (list_at S to) ne)

      all_right : list_at S to ≡ [] → first_no (combine_rules to first second S) ≡ 0
      unfolding combine_rules
      all_right e = rw (lt-leb (length S.sets) first lt, lt-leb (length S.sets) second ls, e)

-- What `ask` finds.
pub ask-refused : {w : List ℕ} {to : ℕ} (first second : ℕ) (x : Refusal) → Refuses (decode w) to (number x) → Asks w to first second (Err x)
ask-refused {w} {to} first second x h f = changed (change-seat (combine_rules to first second) f w to h)

module _ {w : List ℕ} {to : ℕ} {v : Survey} (first second : ℕ) (h : Surveyed w to v) where
  ask-args : (x : Refusal) → ((S : State) → Seen w S to v → get_or w 2 0 ≡ length S.sets → first_no (combine_rules to first second S) ≡ number x) → Asks w to first second (Err x)
  ask-args x q f =
      let (S, g) = seen h in
      changed (change-args (combine_rules to first second) f g (q S g (decode-header w S g.decoded).sets) (number-some x))

  pub ask-first : get_or w 2 0 ≤ first → Asks w to first second (Err NoSet)
  ask-first le = ask-args NoSet (λ S g n. no-first to first second S (omega arith))

  module _ (lf : first < get_or w 2 0) where
    pub ask-second : get_or w 2 0 ≤ second → Asks w to first second (Err NoSet)
    ask-second le = ask-args NoSet (λ S g n. no_second to first second S (omega arith) (omega arith))

    module _ (ls : second < get_or w 2 0) where
      pub ask-occupied : (v.held ≡ 0 → ⊥) → Asks w to first second (Err Occupied)
      ask-occupied ne = ask-args Occupied (λ S g n. no-empty to first second S (omega arith) (omega arith) (seen-some g ne))

      pub ask-empty : v.held ≡ 0 → Asks w to first second (Ok v)
      ask-empty z = record { surveyed = h; known = (lf, ls); empty = z }

-- What a call has that goes on.
pub asked : {w : List ℕ} {to first second : ℕ} {r : Result Survey Refusal} {v : Survey} → Asks w to first second r → r ≡ Ok v → Ready w to first second v
asked h e = rw e at h

pub starts : {op : ℕ} {w : List ℕ} {to first second : ℕ} {r : Result Survey Refusal} {v : Survey} {s : Sources} → Operation op → Asks w to first second r → r ≡ Ok v
    → s ≡ sources_of w first second → Started op w to first second v s
starts o h e q = record { operation = o; ready = asked h e; sources = q }

-- A combination that goes on.
module _ {w : List ℕ} {to first second : ℕ} {v : Survey} (h : Ready w to first second v) where
  abbrev pub state : State
  state = (seen h.surveyed).0

  pub here : Seen w state to v
  here = (seen h.surveyed).1

  pub right : first_no (combine_rules to first second state) ≡ 0
  right =
      let n = (decode-header w state here.decoded).sets in
      all_right to first second state (omega arith) (omega arith) (seen-empty here h.empty)

  pub ready-levels : {s : Sources} → s ≡ sources_of w first second → width (get_or w 1 0) < s.levels
  ready-levels q = rw q (omega arith)
