-- The call on a set: the number of its answer and its value, as functions of the words.
--
--   ranges_at S k           the ranges of set k
--   ranges_rules, ranges_rule   the answer: 3 no such set, 11 fewer than 4 numbers for each range, else how many ranges
--   rows_after              the rows that it leaves;  Ranges: both, as its contract
use Rattle.std.specs.Prelude.{List, [], ◌∷◌, ◌≡◌, ℕ, ◌*◌, length, Result}
use Rattle.nets.specs.Networks.{width}
use Rattle.nets.specs.Refusals.{Rule}
use Rattle.ranges.specs.Ranges.{Range, ranges_of}
use Rattle.ranges.specs.Addresses.{range_rows}
use Rattle.nodes.specs.Words.{put}
use Rattle.pool_state.specs.States.{State}
use Rattle.pool_state.specs.Decode.{Decoded, decode}
use Rattle.pool_state.specs.Rules.{answer_on, left_on, unknown, short, answer_as}
use Rattle.pool_state.specs.Changes.{list_at}
use Rattle.nets.specs.declared.Refusal.{Refusal}

unfoldable pub ranges_at : State → ℕ → List Range
ranges_at S k = ranges_of (width S.family) (list_at S k)

unfoldable pub ranges_rules : ℕ → ℕ → State → List Rule
ranges_rules k n S = unknown S k ∷ short (4 * length (ranges_at S k)) n ∷ []

unfoldable pub ranges_rule : Decoded → ℕ → ℕ → ℕ × ℕ
ranges_rule d k n = answer_on d (ranges_rules k n) 0 (λ S. length (ranges_at S k))

unfoldable pub rows_after : List ℕ → Decoded → ℕ → List ℕ
rows_after v d k = left_on d (ranges_rules k (length v)) v (λ S. put v 0 (range_rows (ranges_at S k)))

-- from the words w and the rows v ranges on set k answers r and leaves the rows u
pub record Ranges (w : List ℕ) (k : ℕ) (v : List ℕ) (r : Result ℕ Refusal) (u : List ℕ) : Type 0 where
  pub answer : answer_as r ≡ ranges_rule (decode w) k (length v)
  pub rows : u ≡ rows_after v (decode w) k
