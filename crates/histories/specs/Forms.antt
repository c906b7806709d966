-- One pool in both forms: all is the same but how the lists are kept.
--
--   set_in F s, in_form F S     the set s, and every set of the state S, with its list kept in the form F
--   SecondOf u v              the words v hold, in the second form, the state that the words u hold
--   AllGranted rs             each of the answers rs has the number 0
--   AnswersAlike rs ss        granted answers rs and ss are the same but for numbers of nodes, which are no more in ss; so every reader is the same
--   AlikeButNodes u v         the calls that read answer from the words v as from the words u, and leave a lent row so, but for numbers of nodes: those held
--                             and those that a lookup reads are no more, those free no fewer. The answers of contains_all are those of contains
use Rattle.std.specs.Prelude.{List, [], ◌∷◌, ◌≡◌, ℕ, ◌≤◌}
use Rattle.nets.specs.declared.Net.{Net}
use Rattle.pool_state.specs.Kept.{Form, second}
use Rattle.pool_state.specs.States.{SetState, State}
use Rattle.pool_state.specs.Decode.{sound, decode}
use Rattle.pool_state.specs.Rules.{free_rule, held_rule, plan_rule}
use Rattle.lookup.specs.Rules.{supernet_rule, contains_rule}
use Rattle.lookup_many.specs.Rules.{all_no}
use Rattle.compare.specs.Rules.{equal_rule}
use Rattle.histories.specs.Sequences.{AnyAnswer, told, left, no_of}
use Rattle.histories.specs.Readings.{SameReadings, SoughtAlike, HeldAlike, ReportAlike}

abbrev pub set_in : Form → SetState → SetState
set_in F s = record { share = s.share; limit = s.limit; public = s.public; indexed = s.indexed; form = F; list = s.list }

abbrev pub sets_in : Form → List SetState → List SetState
sets_in F [] = []
sets_in F (s ∷ ss) = set_in F s ∷ sets_in F ss

abbrev pub in_form : Form → State → State
in_form F S = record { family = S.family; form = F; nodes = S.nodes; sets = sets_in F S.sets }

pub record SecondOf (u v : List ℕ) : Type 0 where
  pub state : State
  pub here : decode u ≡ sound state
  pub there : decode v ≡ sound (in_form second state)

abbrev pub AllGranted : List AnyAnswer → Type 0
AllGranted [] = Unit
AllGranted (r ∷ rs) = (no_of r ≡ 0) × AllGranted rs

abbrev pub AnswerAlike : AnyAnswer → AnyAnswer → Type 0
AnswerAlike (told a) (told b) = b.1 ≤ a.1
AnswerAlike (told a) (left q) = ⊥
AnswerAlike (left p) (told b) = ⊥
AnswerAlike (left p) (left q) = q ≡ p

abbrev pub AnswersAlike : List AnyAnswer → List AnyAnswer → Type 0
AnswersAlike [] [] = Unit
AnswersAlike [] (s ∷ ss) = ⊥
AnswersAlike (r ∷ rs) [] = ⊥
AnswersAlike (r ∷ rs) (s ∷ ss) = AnswerAlike r s × AnswersAlike rs ss

pub record AlikeButNodes (u v : List ℕ) : Type 0 where
  pub readings : (k : ℕ) → SameReadings u v k
  pub equal : (j k : ℕ) → equal_rule (decode u) j k ≡ equal_rule (decode v) j k
  pub supernet : (k : ℕ) (n : Net) → SoughtAlike (supernet_rule u k n) (supernet_rule v k n)
  pub contains : (k : ℕ) (n : Net) → HeldAlike (contains_rule u k n) (contains_rule v k n)
  pub many : (k f : ℕ) (qs : List ℕ) (n : ℕ) → all_no u k f qs n ≡ all_no v k f qs n
  pub plan : (k : ℕ) → plan_rule (decode u) k ≡ plan_rule (decode v) k
  pub held : (k : ℕ) → ReportAlike (held_rule (decode u) k) (held_rule (decode v) k)
  pub free : ((free_rule (decode v)).0 ≡ (free_rule (decode u)).0) × ((free_rule (decode u)).1 ≤ (free_rule (decode v)).1)
