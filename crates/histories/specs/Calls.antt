-- The calls that change a set. Most relist it: four things say what such a call is, the set that it writes, whether it names another, the rules of its arguments, and the list that
-- is its result. A replan gives the set another share and limit, and another call makes it public-only; its list stays. All else is said once for every call, so a further call that relists is one more case of each
-- of the four. An answer is a number of the table and a value, whatever type a call answers by.
--
--   writes c, names_one c      the set that c writes, where it relists;  c names no other set
--   args_of c S, result_of c S  the rules of the arguments of c in the state S;  the list that c makes of the lists of S
--   args_no c S                the number that the arguments get, 0 where they are right
--   target c                  the set that c writes, whatever it gives to it
--   rules_of c S, next_of c S   all rules of c behind the one that there is the set;  what becomes of the set
--   call_no S c, answer_of S c  the number of the answer, and the answer whole
--   state_after S c            the state that c leaves
--   Outcome w c r v           what the contracts allow: from the words w the call c answers r and leaves the words v
use Rattle.std.specs.Prelude.{Bool, true, cond, ◌&&◌, List, [], ℕ, eqb}
use Rattle.nets.specs.Bits.{Bits}
use Rattle.nets.specs.Lists.{add_l, remove_l, simplify_l, merge_l, intersect_l, difference_l, exclude_l}
use Rattle.nets.specs.Networks.{width, net_bits}
use Rattle.nets.specs.Refusals.{answered, Rule, first_no}
use Rattle.nets.specs.declared.Net.{Net}
use Rattle.pool_state.specs.States.{SetState, State, held}
use Rattle.pool_state.specs.Changes.{set_at, list_at, with_set, change_no, Changed, planned, plan_rules, marked, mark_rules, relist_rules, relist_set, net_rules}
use Rattle.combine.specs.Rules.{combine_rules}
use Rattle.setfile_format.specs.Files.{read_file}
use Rattle.setfile.specs.Loading.{load_rules, file_list}
use Rattle.ranges.specs.Blocks.{add_range_l}
use Rattle.change_many.specs.Calls.{poured_l, file_rules, range_of, span_rules}
use Rattle.change_many.specs.declared.Span.{Span}

-- a set and a network; a set; the set to write and the two to read; a set and the bytes of a file; the same, into the set or out of it; a set and a range
pub data Relist : Type 0 where
  add remove : ℕ → Net → Relist
  simplify : ℕ → Relist
  merge intersect exclude exclude_apart : ℕ → ℕ → ℕ → Relist
  load : ℕ → List ℕ → Relist
  pour : Bool → ℕ → List ℕ → Relist
  add_range : ℕ → Span → Relist

-- such a call; or a set, and the share and the limit that it is given; or a set that is made public-only
pub data Call : Type 0 where
  relist : Relist → Call
  replan : ℕ → ℕ → ℕ → Call
  make_public : ℕ → Call

abbrev pub writes : Relist → ℕ
writes (add k n) = k
writes (remove k n) = k
writes (simplify k) = k
writes (merge to a b) = to
writes (intersect to a b) = to
writes (exclude to a b) = to
writes (exclude_apart to a b) = to
writes (load k d) = k
writes (pour x k d) = k
writes (add_range k s) = k

abbrev pub names_one : Relist → Bool
names_one (add k n) = true
names_one (remove k n) = true
names_one (simplify k) = true
names_one (merge to a b) = eqb a to && eqb b to
names_one (intersect to a b) = eqb a to && eqb b to
names_one (exclude to a b) = eqb a to && eqb b to
names_one (exclude_apart to a b) = eqb a to && eqb b to
names_one (load k d) = true
names_one (pour x k d) = true
names_one (add_range k s) = true

abbrev pub args_of : Relist → State → List Rule
args_of (add k n) = net_rules n
args_of (remove k n) = net_rules n
args_of (simplify k) = λ S. []
args_of (merge to a b) = combine_rules to a b
args_of (intersect to a b) = combine_rules to a b
args_of (exclude to a b) = combine_rules to a b
args_of (exclude_apart to a b) = combine_rules to a b
args_of (load k d) = load_rules (read_file d) k
args_of (pour x k d) = file_rules (read_file d)
args_of (add_range k s) = span_rules s

abbrev pub args_no : Relist → State → ℕ
args_no c S = first_no (args_of c S)

abbrev pub result_of : Relist → State → List Bits
result_of (add k n) = λ S. add_l (list_at S k) (net_bits n)
result_of (remove k n) = λ S. remove_l (list_at S k) (net_bits n)
result_of (simplify k) = λ S. simplify_l (list_at S k)
result_of (merge to a b) = λ S. merge_l (list_at S a) (list_at S b)
result_of (intersect to a b) = λ S. intersect_l (list_at S a) (list_at S b)
result_of (exclude to a b) = λ S. difference_l (list_at S a) (list_at S b)
result_of (exclude_apart to a b) = λ S. exclude_l (list_at S a) (list_at S b)
result_of (load k d) = λ S. file_list (read_file d)
result_of (pour x k d) = λ S. poured_l x (list_at S k) (file_list (read_file d))
result_of (add_range k s) = λ S. add_range_l (width S.family) (list_at S k) (range_of s)

abbrev pub target : Call → ℕ
target (relist c) = writes c
target (replan k x y) = k
target (make_public k) = k

abbrev pub rules_of : Call → State → List Rule
rules_of (relist c) = relist_rules (writes c) (args_of c) (result_of c)
rules_of (replan k x y) = plan_rules k x y
rules_of (make_public k) = mark_rules k

abbrev pub next_of : Call → State → SetState
next_of (relist c) = relist_set (writes c) (result_of c)
next_of (replan k x y) = λ S. planned (set_at S k) x y
next_of (make_public k) = λ S. marked (set_at S k)

abbrev pub call_no : State → Call → ℕ
call_no S c = change_no S (target c) (rules_of c S)

abbrev pub answer_of : State → Call → ℕ × ℕ
answer_of S c = answered (call_no S c) 0 (held (next_of c S))

unfoldable pub state_after : State → Call → State
state_after S c = cond (eqb (call_no S c) 0) (with_set S (target c) (next_of c S)) S

abbrev pub Outcome : List ℕ → Call → ℕ × ℕ → List ℕ → Type 0
Outcome w c r v = Changed w (target c) (rules_of c) (next_of c) r v
