-- The listing into a row of networks: its answer and the row that it leaves, as functions of the words.
--
--   nets_of f l           the networks of a list, by their numbers in the family f
--   filled f l v         the row v, with the networks of l in its first entries
--   row_rules, row_rule    the answer: 3 no such set, 11 fewer entries than networks, else how many networks
--   row_after             the row afterwards;  Listed: both, as the contract
--   blank                a page: 16 entries of zeros
use Rattle.std.specs.Prelude.{List, [], ◌∷◌, ◌++◌, map, ◌≡◌, ℕ, length, drop, replicate, Result}
use Rattle.nets.specs.Bits.{Bits}
use Rattle.nets.specs.Networks.{net_from, no_net}
use Rattle.nets.specs.Refusals.{Rule}
use Rattle.nets.specs.declared.Net.{Net}
use Rattle.pool_state.specs.States.{State}
use Rattle.pool_state.specs.Decode.{Decoded, decode}
use Rattle.pool_state.specs.Rules.{answer_on, left_on, unknown, short, answer_as}
use Rattle.pool_state.specs.Changes.{list_at}
use Rattle.nets.specs.declared.Refusal.{Refusal}

abbrev pub nets_of : ℕ → List Bits → List Net
nets_of f l = map (net_from f) l

abbrev pub filled : ℕ → List Bits → List Net → List Net
filled f l v = nets_of f l ++ drop (length l) v

unfoldable pub row_rules : ℕ → ℕ → State → List Rule
row_rules k n S = unknown S k ∷ short (length (list_at S k)) n ∷ []

unfoldable pub row_rule : Decoded → ℕ → ℕ → ℕ × ℕ
row_rule d k n = answer_on d (row_rules k n) 0 (λ S. length (list_at S k))

unfoldable pub row_after : List Net → Decoded → ℕ → List Net
row_after v d k = left_on d (row_rules k (length v)) v (λ S. filled S.family (list_at S k) v)

-- from the words w and the row v list on set k answers r and leaves the row u
pub record Listed (w : List ℕ) (k : ℕ) (v : List Net) (r : Result ℕ Refusal) (u : List Net) : Type 0 where
  pub answer : answer_as r ≡ row_rule (decode w) k (length v)
  pub row : u ≡ row_after v (decode w) k

unfoldable pub blank : List Net
blank = replicate 16 no_net
