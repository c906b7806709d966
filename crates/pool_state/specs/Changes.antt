-- The rules of a changing call, said once for all of them: on set k, with the rules rs behind the one that there is such a set, and with x as what becomes of the set.
--
--   with_set S k x      the state with x in the place of set k
--   fits S k x         x may stand there: its share and its nodes are at most its limit, it keeps clear of the inner networks where it is public-only, and its claim is at most the room
--   change_rules S k rs         3 no such set, then rs;  change_no: the number, 0 where it is granted
--   change_rule, words_after     the answer, which has the nodes of x, and the words afterwards: those of the state with x, or no word changed; Changed: both, as a contract
--
-- A call that replans the set, which gives it another share x and limit y:
--
--   planned s x y      the set s with them
--   plan_rules k x y S  13 they do not fit;  Replanned: as a contract
--
-- The call that makes the set public-only, which has to be empty:
--
--   marked s           the set s made public-only
--   mark_rules k S      8 it isn't empty;  Marked: as a contract
--
-- A call that relists the set, which gives it another list l, with the rules a of its arguments:
--
--   set_with s l        the set s with the list l
--   grant_rules S k l   14 the set is public-only and l overlaps an inner network, 9 more nodes than the limit, 10 more than the room
--   relist_rules k a f, relist_set k f    what such a call is: its rules, a and then those, and what becomes of the set;  Relisted: as a contract;  relist_no: the number
--
--   net_rules n S       the rules of a network as an argument: 6 another family than the pool's, 7 no network
--   occupied S k       the rule of a set that is to be written first: it is empty
use Rattle.std.specs.Prelude.{Bool, true, false, not, ◌&&◌, List, [], ◌∷◌, ◌++◌, ◌≡◌, ℕ, zero, suc, eqb, leb, ltb, get_or}
use Rattle.nets.specs.Bits.{Bits}
use Rattle.nets.specs.Refusals.{Rule, first_no}
use Rattle.nets.specs.Networks.{refusal_of}
use Rattle.nets.specs.declared.Net.{Net}
use Rattle.nets.specs.declared.Refusal.TheVariants.{WrongFamily, BadNetwork, Occupied, OverLimit, NoRoom, BadShare, NotPublic}
use Rattle.pool_state.specs.Kept.{held_l}
use Rattle.pool_state.specs.States.{SetState, State, held, claim, room_of, admits}
use Rattle.pool_state.specs.Decode.{Decoded, over, decode}
use Rattle.pool_state.specs.Rules.{answer_on, left_on, unknown, no_set}

abbrev pub set_at : State → ℕ → SetState
set_at S k = get_or S.sets k no_set

abbrev pub list_at : State → ℕ → List Bits
list_at S k = (set_at S k).list

abbrev pub sets_with : ℕ → SetState → List SetState → List SetState
sets_with k x [] = []
sets_with zero x (s ∷ ss) = x ∷ ss
sets_with (suc k) x (s ∷ ss) = s ∷ sets_with k x ss

unfoldable pub with_set : State → ℕ → SetState → State
with_set S k x = record { family = S.family; form = S.form; nodes = S.nodes; sets = sets_with k x S.sets }

unfoldable pub fits : State → ℕ → SetState → Bool
fits S k x = leb x.share x.limit && (leb (held x) x.limit && (admits S.family x x.list && leb (claim x) (room_of S k)))

unfoldable pub change_rules : State → ℕ → List Rule → List Rule
change_rules S k rs = unknown S k ∷ rs

abbrev pub change_no : State → ℕ → List Rule → ℕ
change_no S k rs = first_no (change_rules S k rs)

unfoldable pub change_rule : Decoded → ℕ → (State → List Rule) → (State → SetState) → ℕ × ℕ
change_rule d k rs f = answer_on d (λ S. change_rules S k (rs S)) 0 (λ S. held (f S))

unfoldable pub words_after : List ℕ → Decoded → ℕ → (State → List Rule) → (State → SetState) → List ℕ
words_after w d k rs f = left_on d (λ S. change_rules S k (rs S)) w (λ S. over w (with_set S k (f S)))

-- from the words w a changing call on set k answers r, a number and the nodes, and leaves the words v
pub record Changed (w : List ℕ) (k : ℕ) (rs : State → List Rule) (f : State → SetState) (r : ℕ × ℕ) (v : List ℕ) : Type 0 where
  pub answer : r ≡ change_rule (decode w) k rs f
  pub words : v ≡ words_after w (decode w) k rs f

-- another share and limit
abbrev pub planned : SetState → ℕ → ℕ → SetState
planned s x y = record { share = x; limit = y; public = s.public; indexed = s.indexed; form = s.form; list = s.list }

unfoldable pub plan_rules : ℕ → ℕ → ℕ → State → List Rule
plan_rules k x y S = (not (fits S k (planned (set_at S k) x y)), BadShare) ∷ []

abbrev pub Replanned : List ℕ → ℕ → ℕ → ℕ → ℕ × ℕ → List ℕ → Type 0
Replanned w k x y r v = Changed w k (plan_rules k x y) (λ S. planned (set_at S k) x y) r v

-- the list is empty; the rule that set k has none
abbrev pub is_empty : List Bits → Bool
is_empty [] = true
is_empty (p ∷ l) = false

abbrev pub occupied : State → ℕ → Rule
occupied S k = (not (is_empty (list_at S k)), Occupied)

-- public-only from now on
abbrev pub marked : SetState → SetState
marked s = record { share = s.share; limit = s.limit; public = true; indexed = s.indexed; form = s.form; list = s.list }

unfoldable pub mark_rules : ℕ → State → List Rule
mark_rules k S = occupied S k ∷ []

abbrev pub Marked : List ℕ → ℕ → ℕ × ℕ → List ℕ → Type 0
Marked w k r v = Changed w k (mark_rules k) (λ S. marked (set_at S k)) r v

-- another list
abbrev pub set_with : SetState → List Bits → SetState
set_with s l = record { share = s.share; limit = s.limit; public = s.public; indexed = s.indexed; form = s.form; list = l }

abbrev pub grant_rules : State → ℕ → List Bits → List Rule
grant_rules S k l =
    (not (admits S.family (set_at S k) l), NotPublic) ∷ (ltb (set_at S k).limit (held_l (set_at S k).form l), OverLimit)
    ∷ (ltb (room_of S k) (held_l (set_at S k).form l), NoRoom) ∷ []

unfoldable pub relist_rules : ℕ → (State → List Rule) → (State → List Bits) → State → List Rule
relist_rules k a f S = a S ++ grant_rules S k (f S)

unfoldable pub relist_set : ℕ → (State → List Bits) → State → SetState
relist_set k f S = set_with (set_at S k) (f S)

abbrev pub Relisted : List ℕ → ℕ → (State → List Rule) → (State → List Bits) → ℕ × ℕ → List ℕ → Type 0
Relisted w k a f r v = Changed w k (relist_rules k a f) (relist_set k f) r v

abbrev pub relist_no : State → ℕ → List Rule → List Bits → ℕ
relist_no S k a l = change_no S k (a ++ grant_rules S k l)

unfoldable pub net_rules : Net → State → List Rule
net_rules n S = (not (eqb n.family S.family), WrongFamily) ∷ (not (eqb (refusal_of n) 0), BadNetwork) ∷ []
