-- Histories: calls that change sets, each from the words that the one before left. Any words may be the first; a granted layout leaves such. Reports and lookups have the words
-- only to read, so they may stand anywhere in between, as may a refused layout.
--
--   state_from S cs, answers_from   the state that the calls cs make of the state S, and what they answer by the rules. In every list the last call stands first
--   History w cs rs v         from the words w on, the calls cs answered rs and left the words v
--   calls_on k cs, answers_on   the calls on set k, those that write it, and the answers to them
--   Alone S c                 in the state S the call c, which relists, names no other set than the one that it writes, and its result fits that set's share
--   AllAlone S k cs           each call on set k relists it so or makes it public-only: from the state S on none of the calls cs replans it
--   SameAt k S T              the states S and T agree on set k: the family, the form, whether there is such a set, and all that is of it
--   SameList k S T            they agree on its list: the family, whether there is such a set, and its list
use Rattle.std.specs.Prelude.{true, cond, List, [], ◌∷◌, ◌≡◌, ℕ, ◌≤◌, eqb, leb, length}
use Rattle.pool_state.specs.Kept.{held_l}
use Rattle.pool_state.specs.States.{State}
use Rattle.pool_state.specs.Changes.{set_at, list_at}
use Rattle.histories.specs.Calls.{Relist, Call, relist, replan, make_public, writes, target, names_one, args_no, result_of, answer_of, state_after, Outcome}

unfoldable pub state_from : State → List Call → State
state_from S [] = S
state_from S (c ∷ cs) = state_after (state_from S cs) c

unfoldable pub answers_from : State → List Call → List (ℕ × ℕ)
answers_from S [] = []
answers_from S (c ∷ cs) = answer_of (state_from S cs) c ∷ answers_from S cs

pub data History (w : List ℕ) : List Call → List (ℕ × ℕ) → List ℕ → Type 0 where
  begin : History w [] [] w
  step : {cs : List Call} {rs : List (ℕ × ℕ)} {c : Call} {r : ℕ × ℕ} {u v : List ℕ} → History w cs rs u → Outcome u c r v → History w (c ∷ cs) (r ∷ rs) v

abbrev pub calls_on : ℕ → List Call → List Call
calls_on k [] = []
calls_on k (c ∷ cs) = cond (eqb (target c) k) (c ∷ calls_on k cs) (calls_on k cs)

abbrev pub answers_on : ℕ → List Call → List (ℕ × ℕ) → List (ℕ × ℕ)
answers_on k [] rs = []
answers_on k (c ∷ cs) [] = []
answers_on k (c ∷ cs) (r ∷ rs) = cond (eqb (target c) k) (r ∷ answers_on k cs rs) (answers_on k cs rs)

pub record Alone (S : State) (c : Relist) : Type 0 where
  pub names : names_one c ≡ true
  pub fits : args_no c S ≡ 0 → held_l (set_at S (writes c)).form (result_of c S) ≤ (set_at S (writes c)).share

abbrev pub CallAlone : State → Call → Type 0
CallAlone S (relist c) = Alone S c
CallAlone S (replan k x y) = ⊥
CallAlone S (make_public k) = Unit

abbrev pub AllAlone : State → ℕ → List Call → Type 0
AllAlone S k [] = Unit
AllAlone S k (c ∷ cs) = AllAlone S k cs × (target c ≡ k → CallAlone (state_from S cs) c)

pub record SameAt (k : ℕ) (S T : State) : Type 0 where
  pub family : S.family ≡ T.family
  pub form : S.form ≡ T.form
  pub known : leb (length S.sets) k ≡ leb (length T.sets) k
  pub set : set_at S k ≡ set_at T k

pub record SameList (k : ℕ) (S T : State) : Type 0 where
  pub family : S.family ≡ T.family
  pub known : leb (length S.sets) k ≡ leb (length T.sets) k
  pub list : list_at S k ≡ list_at T k
