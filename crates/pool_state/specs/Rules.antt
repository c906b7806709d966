-- What a call answers and leaves by its rules, said once for all of them; then the rules of the calls that change no list.
--
--   answer_on d rs z f   the answer of a call: 2 where the words are damaged, else the first of the rules rs of the state that applies, each with the value z; else the value f of the state
--   left_on d rs b g     what it leaves of b: b itself where it is refused, else what g makes of the state
--   unknown S k, short m n      the rules that there is a set k, and that a buffer of n entries takes m
--   Setup, empty_state   the arguments of layout, and the state that a granted one leaves
--   layout_no, laid      the answer of layout, and the words that a granted one leaves; Laid: both, as its contract
--   free_rule, held_rule, plan_rule      the free nodes; nodes and networks of a set; share and limit of a set
--   survey_of, found_of   what one pass over a pool finds out for the calls on set k: zeros where the pool is damaged; nothing there
--   seat_at S k, seat_of w v      the seat of its trie, behind the sets before it; by the words and what a pass found
--   seated_rule          the survey and the seat of set k, or the refusal of every call on it
use Rattle.std.specs.Prelude.{Bool, true, false, cond, ◌&&◌, ◌||◌, List, [], ◌∷◌, ◌≡◌, ℕ, zero, suc, ◌+◌, ◌/◌, ◌%◌, eqb, leb, ltb, length, get_or, replicate, Option, Some, None, Result, Ok, Err}
use Rattle.nets.specs.Refusals.{number, answered, Rule, first_no}
use Rattle.nets.specs.declared.Refusal.TheVariants.{NoSet, ShortBuffer}
use Rattle.nodes.specs.Words.{put}
use Rattle.pool_state.specs.Kept.{Form, first, form_of}
use Rattle.pool_state.specs.States.{SetState, State, held, claimed, used, free_of, is_size}
use Rattle.nets.specs.Networks.{is_family}
use Rattle.nodes.specs.declared.seats.Seat.{Seat}
use Rattle.pool_state.specs.Decode.{Decoded, damaged, sound, least_words, record_at, base, over, is_form}
use Rattle.pool_state.specs.declared.Survey.{Survey}
use Rattle.nets.specs.declared.Refusal.{Refusal}

unfoldable pub answer_on : {A : Type 0} → Decoded → (State → List Rule) → A → (State → A) → ℕ × A
answer_on damaged rs z f = (2, z)
answer_on (sound S) rs z f = answered (first_no (rs S)) z (f S)

unfoldable pub left_on : {B : Type 0} → Decoded → (State → List Rule) → B → (State → B) → B
left_on damaged rs b g = b
left_on (sound S) rs b g = cond (eqb (first_no (rs S)) 0) (g S) b

abbrev pub unknown : State → ℕ → Rule
unknown S k = (leb (length S.sets) k, NoSet)

abbrev pub short : ℕ → ℕ → Rule
short m n = (ltb n m, ShortBuffer)

-- the number and the value of an answer: a refusal has its number and zeros
abbrev pub answer_as : Result ℕ Refusal → ℕ × ℕ
answer_as (Ok n) = (0, n)
answer_as (Err r) = (number r, 0)

abbrev pub report_as : Result (ℕ × ℕ) Refusal → ℕ × (ℕ × ℕ)
report_as (Ok (a, b)) = (0, (a, b))
report_as (Err r) = (number r, (0, 0))

abbrev pub told_as : Result Bool Refusal → ℕ × Bool
told_as (Ok b) = (0, b)
told_as (Err r) = (number r, false)

-- the number of a verdict
abbrev pub verdict_as : Result Unit Refusal → ℕ
verdict_as (Ok tt) = 0
verdict_as (Err r) = number r

-- each share is at most its limit
abbrev pub within_limits : List ℕ → List ℕ → Bool
within_limits [] limits = true
within_limits (x ∷ shares) [] = false
within_limits (x ∷ shares) (y ∷ limits) = leb x y && within_limits shares limits

unfoldable pub total : List ℕ → ℕ
total [] = 0
total (x ∷ xs) = x + total xs

-- each set has a share and a limit, and the shares add up to at most the nodes
unfoldable pub shares_fit : ℕ → ℕ → List ℕ → List ℕ → Bool
shares_fit sets nodes shares limits = eqb (length shares) sets && eqb (length limits) sets && (within_limits shares limits && leb (total shares) nodes)

-- what layout is asked for
pub record Setup : Type 0 where
  pub family : ℕ
  pub form : ℕ
  pub sets : ℕ
  pub nodes : ℕ
  pub shares : List ℕ
  pub limits : List ℕ
  pub indexed : ℕ

abbrev pub setup : ℕ → ℕ → ℕ → ℕ → List ℕ → List ℕ → ℕ → Setup
setup f o m n xs ys x = record { family = f; form = o; sets = m; nodes = n; shares = xs; limits = ys; indexed = x }

-- the sets that are to be indexed, as a number whose bit s stands for set s: whether m sets have all of them, and how many they are
unfoldable pub marks_fit : ℕ → ℕ → Bool
marks_fit zero x = eqb x 0
marks_fit (suc m) x = marks_fit m (x / 2)

unfoldable pub marks : ℕ → ℕ → ℕ
marks zero x = 0
marks (suc m) x = x % 2 + marks m (x / 2)

abbrev pub words_of : Setup → ℕ
words_of p = least_words p.sets p.nodes (marks p.sets p.indexed)

-- it is a form, and in the second no set is to be indexed
unfoldable pub is_formed : ℕ → ℕ → Bool
is_formed o x = is_form o && (eqb o 0 || eqb x 0)

-- it keeps the rules, and so many words are enough
unfoldable pub is_setup : ℕ → Setup → Bool
is_setup words p =
    is_family p.family && is_formed p.form p.indexed && is_size p.sets p.nodes && marks_fit p.sets p.indexed && leb (words_of p) words
    && shares_fit p.sets p.nodes p.shares p.limits

unfoldable pub layout_no : List ℕ → Setup → ℕ
layout_no w p = cond (is_setup (length w) p) 0 1

-- sets without a network, in the form F, none of them public-only, and indexed by the bits of a number
abbrev pub empty_sets : Form → List ℕ → List ℕ → ℕ → List SetState
empty_sets F [] limits z = []
empty_sets F (x ∷ shares) [] z = []
empty_sets F (x ∷ shares) (y ∷ limits) z = record { share = x; limit = y; public = false; indexed = eqb (z % 2) 1; form = F; list = [] } ∷ empty_sets F shares limits (z / 2)

-- the same without form, shares and limits
abbrev pub blanks : ℕ → ℕ → List SetState
blanks zero z = []
blanks (suc n) z = record { share = 0; limit = 0; public = false; indexed = eqb (z % 2) 1; form = first; list = [] } ∷ blanks n (z / 2)

abbrev pub empty_state : Setup → State
empty_state p = record { family = p.family; form = form_of p.form; nodes = p.nodes; sets = empty_sets (form_of p.form) p.shares p.limits p.indexed }

-- the smallest buffer is cleared, and every set is empty
unfoldable pub laid : List ℕ → Setup → List ℕ
laid w p = over (put w 0 (replicate (words_of p) 0)) (empty_state p)

-- from the words w layout answers r and leaves the words v
pub record Laid (w : List ℕ) (p : Setup) (r : ℕ × ℕ) (v : List ℕ) : Type 0 where
  pub answer : r ≡ (layout_no w p, 0)
  pub words : v ≡ cond (eqb (layout_no w p) 0) (laid w p) w

-- share, limit, mark and tag of set k, by the words
abbrev pub share_in : List ℕ → ℕ → ℕ
share_in w k = get_or w (record_at k + 1) 0

abbrev pub limit_in : List ℕ → ℕ → ℕ
limit_in w k = get_or w (record_at k + 2) 0

abbrev pub public_in : List ℕ → ℕ → ℕ
public_in w k = get_or w (record_at k + 3) 0

abbrev pub tag_in : List ℕ → ℕ → ℕ
tag_in w k = get_or w (record_at k + 4) 0

-- a report on set k: 2 where the pool is damaged, 3 where there is no such set
abbrev pub no_set : SetState
no_set = record { share = 0; limit = 0; public = false; indexed = false; form = first; list = [] }

abbrev pub on_set : {A : Type 0} → Decoded → ℕ → A → (State → SetState → A) → ℕ × A
on_set d k z f = answer_on d (λ S. unknown S k ∷ []) z (λ S. f S (get_or S.sets k no_set))

unfoldable pub free_rule : Decoded → ℕ × ℕ
free_rule d = answer_on d (λ S. []) 0 free_of

unfoldable pub held_rule : Decoded → ℕ → ℕ × (ℕ × ℕ)
held_rule d k = on_set d k (0, 0) (λ S s. (held s, length s.list))

unfoldable pub plan_rule : Decoded → ℕ → ℕ × (ℕ × ℕ)
plan_rule d k = on_set d k (0, 0) (λ S s. (s.share, s.limit))

-- what a pass over the pool finds: the nodes in use, the claims, the number at which set k begins or would, and its nodes
abbrev pub no_survey : Survey
no_survey = record { used = 0; claimed = 0; at = 0; held = 0 }

-- the number of the first node of set k, or where it would stand, if the first set's is i
abbrev pub first_node : ℕ → ℕ → List SetState → ℕ
first_node k i [] = 0
first_node zero i (s ∷ ss) = i
first_node (suc k) i (s ∷ ss) = first_node k (i + held s) ss

unfoldable pub survey_of : Decoded → ℕ → Survey
survey_of damaged k = no_survey
survey_of (sound S) k =
    record { used = used S.sets; claimed = claimed S.sets; at = first_node k 1 S.sets; held = held (get_or S.sets k no_set) }

unfoldable pub found_of : Decoded → ℕ → Option Survey
found_of damaged k = None
found_of (sound S) k = Some (survey_of (sound S) k)

abbrev pub seat_at : State → ℕ → Seat
seat_at S k =
    record {
      family = S.family;
      base = base (length S.sets);
      first = first_node k 1 S.sets;
      end = first_node k 1 S.sets + held (get_or S.sets k no_set);
    }

abbrev pub seat_of : List ℕ → Survey → Seat
seat_of w v = record { family = get_or w 1 0; base = base (get_or w 2 0); first = v.at; end = v.at + v.held }

abbrev pub no_seat : Seat
no_seat = record { family = 0; base = 0; first = 0; end = 0 }

abbrev pub seated_as : Result (Survey × Seat) Refusal → ℕ × (Survey × Seat)
seated_as (Ok (v, s)) = (0, (v, s))
seated_as (Err r) = (number r, (no_survey, no_seat))

unfoldable pub seated_rule : Decoded → ℕ → ℕ × (Survey × Seat)
seated_rule d k = on_set d k (no_survey, no_seat) (λ S s. (survey_of (sound S) k, seat_at S k))
