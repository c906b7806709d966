-- The rules of the lookups, as functions of the words: the header first, then the arguments, then the path and nothing else.
--
--   on_root w k refuse f     2 no header of a pool, 3 no such set; else what f says of the number of the set's root
--   from_root, from_index     what the path of the bits q shows in set k in the first form from the root on, and from their word of the index at place p on
--   kept_from_root w k q      what it shows in the second form, in which no set is indexed
--   path_of F w k q          what the path of the bits q shows in set k of a pool in the form F: from the root on, or in the first form, where the set is indexed and there are
--                           eight bits, from their word of the index on
--   query, lookup           6 another family than the pool's, 7 no network; else what the path shows
--   supernet_rule, contains_rule, empty_rule      the number and the values of each answer;  Sought, Held: those values, of supernet and of contains
--   steps_of F l q                              how many nodes a lookup of q in the list l counts: in the first form all on its way, in the second the members and branch points there
--   set_no, lookup_no, found_as                   the same of a sound pool, by its lists: proofs/OnLists.antt
use Rattle.std.specs.Prelude.{Bool, true, false, cond, ◌||◌, List, [], ◌∷◌, ℕ, ◌+◌, eqb, leb, ltb, length, get_or, take, drop, Option, Some, None, Result, Ok, Err}
use Rattle.nets.specs.Bits.{Bits, val}
use Rattle.nets.specs.Lists.{Found, found, missing, steps_l}
use Rattle.nets.specs.Refusals.{number, first_no}
use Rattle.nets.specs.Networks.{net_bits, net_from, refusal_of, no_net, with_len, cleared, has_bit_past}
use Rattle.nets.specs.declared.Net.{Net}
use Rattle.nets.specs.declared.Refusal.{Refusal}
use Rattle.nets.specs.declared.Refusal.TheVariants.{Damaged, NoSet, WrongFamily, BadNetwork}
use Rattle.branch_points.specs.BranchPoints.{kept_steps_l}
use Rattle.kept_lookup.specs.Walks.{kept_walk_from}
use Rattle.kept_lookup.specs.declared.Shown as kept-shown
use Rattle.kept_lookup.specs.declared.Shown.TheVariants as kept
use Rattle.pool_state.specs.Kept.{Form, first, second}
use Rattle.pool_state.specs.States.{State}
use Rattle.pool_state.specs.Decode.{record_at, base, form_in, is_header}
use Rattle.pool_state.specs.Rules.{unknown, tag_in}
use Rattle.pool_state.specs.Steps.{index_in}
use Rattle.pool_state.specs.Changes.{net_rules}
use Rattle.trie_lookup.specs.Walks.{walk_from, stands_on}
use Rattle.trie_lookup.specs.declared.Shown.{Shown}
use Rattle.trie_lookup.specs.declared.Shown.TheVariants.{Member, Nothing, Refused}
use Rattle.lookup.specs.declared.Covering.{Covering}
use Rattle.lookup.specs.declared.Contained.{Contained}

unfoldable pub on_root : {A : Type 0} → List ℕ → ℕ → (Refusal → A) → (ℕ → A) → A
on_root w k refuse f = cond (is_header w) (cond (ltb k (get_or w 2 0)) (f (get_or w (record_at k) 0)) (refuse NoSet)) (refuse Damaged)

abbrev pub from_root : List ℕ → ℕ → Bits → Shown
from_root w k q = walk_from w (base (get_or w 2 0)) (get_or w 3 0) q (get_or w (record_at k) 0)

abbrev pub from_index : List ℕ → ℕ → ℕ → Bits → Shown
from_index w k p q = stands_on w (base (get_or w 2 0)) (get_or w 3 0) (get_or w (record_at k) 0) (get_or w (p + val (take 8 q)) 0) (drop 8 q)

-- what the walk of the second form shows
abbrev pub shown_of : kept-shown.Shown → Shown
shown_of (kept.Member d s) = Member d s
shown_of (kept.Nothing s) = Nothing s
shown_of kept.Damaged = Refused Damaged

abbrev pub kept_from_root : List ℕ → ℕ → Bits → Shown
kept_from_root w k q = shown_of (kept_walk_from (get_or w 1 0) w (base (get_or w 2 0)) (get_or w 3 0) q (get_or w (record_at k) 0))

unfoldable pub path_of : Form → List ℕ → ℕ → Bits → Shown
path_of first w k q =
    cond (eqb (tag_in w k) 0 || ltb (length q) 8) (from_root w k q) (cond (leb (tag_in w k) (get_or w 4 0)) (from_index w k (index_in w k) q) (Refused Damaged))
path_of second w k q = kept_from_root w k q

unfoldable pub query : List ℕ → ℕ → Net → Shown
query w k n =
    cond (eqb n.family (get_or w 1 0))
    (cond (eqb (refusal_of n) 0) (path_of (form_in w) w k (net_bits n)) (Refused BadNetwork))
    (Refused WrongFamily)

unfoldable pub lookup : List ℕ → ℕ → Net → Shown
lookup w k n = on_root w k Refused (λ r. query w k n)

-- the number and the values of an answer: a refusal has its number and zeros. The values of a lookup stand in pairs to the right, so that one more goes behind the last:
-- found or not, the member, the nodes that were read, and whether a set bit past the query's length was cut
abbrev pub Sought : Type 0
Sought = Bool × (Net × (ℕ × Bool))

abbrev pub Held : Type 0
Held = Bool × (ℕ × Bool)

abbrev pub unsought : Sought
unsought = (false, (no_net, (0, false)))

abbrev pub unheld : Held
unheld = (false, (0, false))

abbrev pub sought : Option Net → ℕ → Bool → Sought
sought (Some m) s t = (true, (m, (s, t)))
sought None s t = (false, (no_net, (s, t)))

abbrev pub supernet_as : Result Covering Refusal → ℕ × Sought
supernet_as (Ok c) = (0, sought c.member c.steps c.cut)
supernet_as (Err r) = (number r, unsought)

abbrev pub contains_as : Result Contained Refusal → ℕ × Held
contains_as (Ok c) = (0, (c.is_member, (c.steps, c.cut)))
contains_as (Err r) = (number r, unheld)

-- the member that a path shows is the query, cut to the member's length
abbrev pub member_of : Net → Shown → ℕ × Sought
member_of n (Member d s) = (0, (true, (cleared (with_len n d), (s, has_bit_past n))))
member_of n (Nothing s) = (0, (false, (no_net, (s, has_bit_past n))))
member_of n (Refused r) = (number r, unsought)

abbrev pub is_member : Net → Shown → ℕ × Held
is_member n (Member d s) = (0, (true, (s, has_bit_past n)))
is_member n (Nothing s) = (0, (false, (s, has_bit_past n)))
is_member n (Refused r) = (number r, unheld)

unfoldable pub supernet_rule : List ℕ → ℕ → Net → ℕ × Sought
supernet_rule w k n = member_of n (lookup w k n)

unfoldable pub contains_rule : List ℕ → ℕ → Net → ℕ × Held
contains_rule w k n = is_member n (lookup w k n)

-- the emptiness test, by the root's number r in a pool of n nodes
abbrev pub empty_at : ℕ → ℕ → ℕ × Bool
empty_at n r = cond (leb r n) (0, eqb r 0) (2, false)

unfoldable pub empty_rule : List ℕ → ℕ → ℕ × Bool
empty_rule w k = on_root w k (λ r. (number r, false)) (empty_at (get_or w 3 0))

-- a sound pool: the numbers by its state, and the member that a list gives
abbrev pub set_no : State → ℕ → ℕ
set_no S k = first_no (unknown S k ∷ [])

abbrev pub lookup_no : State → ℕ → Net → ℕ
lookup_no S k n = first_no (unknown S k ∷ net_rules n S)

unfoldable pub steps_of : Form → List Bits → Bits → ℕ
steps_of first l q = steps_l l q
steps_of second l q = kept_steps_l l q

-- with the nodes that were read, and the report
abbrev pub found_as : ℕ → Found → ℕ → Bool → Sought
found_as f (found p) s t = (true, (net_from f p, (s, t)))
found_as f missing s t = (false, (no_net, (s, t)))
