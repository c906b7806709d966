-- The calls on a set: the number of each answer and its values, as functions of the words.
--
--   list_rules, list_rule  the answer of list: 3 no such set, 11 fewer than 3 numbers for each network, else how many networks
--   rows_after            the rows that it leaves;  Listed: both, as its contract
--   next_rules, next_rule  the answer of next: 3, 6 another family than the pool's, 7 no network, else the network that follows, if there is one
use Rattle.std.specs.Prelude.{Bool, true, false, List, [], ◌∷◌, ◌≡◌, ℕ, ◌*◌, length, Result, Option, Ok, Err, Some, None}
use Rattle.nets.specs.Lists.{Place, start, past, Found, found, missing, next_l}
use Rattle.nets.specs.Networks.{net_bits, net_from, no_net}
use Rattle.nets.specs.Refusals.{number, Rule}
use Rattle.nets.specs.declared.Net.{Net}
use Rattle.nodes.specs.Words.{put}
use Rattle.pool_state.specs.States.{State}
use Rattle.pool_state.specs.Decode.{Decoded, decode}
use Rattle.pool_state.specs.Rules.{answer_on, left_on, unknown, short, answer_as}
use Rattle.pool_state.specs.Changes.{list_at, net_rules}
use Rattle.trie_paths.specs.Rows.{rows_of}
use Rattle.nets.specs.declared.Refusal.{Refusal}

unfoldable pub list_rules : ℕ → ℕ → State → List Rule
list_rules k n S = unknown S k ∷ short (3 * length (list_at S k)) n ∷ []

unfoldable pub list_rule : Decoded → ℕ → ℕ → ℕ × ℕ
list_rule d k n = answer_on d (list_rules k n) 0 (λ S. length (list_at S k))

unfoldable pub rows_after : List ℕ → Decoded → ℕ → List ℕ
rows_after v d k = left_on d (list_rules k (length v)) v (λ S. put v 0 (rows_of S.family (list_at S k)))

-- from the words w and the rows v list on set k answers r and leaves the rows u
pub record Listed (w : List ℕ) (k : ℕ) (v : List ℕ) (r : Result ℕ Refusal) (u : List ℕ) : Type 0 where
  pub answer : answer_as r ≡ list_rule (decode w) k (length v)
  pub rows : u ≡ rows_after v (decode w) k

-- the rules of a place as an argument, and the place in a list
abbrev pub from_rules : Option Net → State → List Rule
from_rules None S = []
from_rules (Some n) S = net_rules n S

abbrev pub place_from : Option Net → Place
place_from None = start
place_from (Some n) = past (net_bits n)

-- the network that was found, by its numbers in the family f
abbrev pub nothing : Bool × Net
nothing = (false, no_net)

abbrev pub found_as : ℕ → Found → Bool × Net
found_as f (found p) = (true, net_from f p)
found_as f missing = nothing

-- the number and the values of an answer: a refusal has its number and zeros
abbrev pub follower_as : Result (Option Net) Refusal → ℕ × (Bool × Net)
follower_as (Ok (Some n)) = (0, (true, n))
follower_as (Ok None) = (0, nothing)
follower_as (Err r) = (number r, nothing)

unfoldable pub next_rules : ℕ → Option Net → State → List Rule
next_rules k x S = unknown S k ∷ from_rules x S

unfoldable pub next_rule : Decoded → ℕ → Option Net → ℕ × (Bool × Net)
next_rule d k x = answer_on d (next_rules k x) nothing (λ S. found_as S.family (next_l (list_at S k) (place_from x)))
