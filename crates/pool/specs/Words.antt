-- The words that a pool needs.
--
--   words_rule m n j    the smallest buffer of m sets, j of them indexed, and n nodes, or 1 where there can be no such pool
use Rattle.std.specs.Prelude.{cond, ◌&&◌, ℕ, leb}
use Rattle.pool_state.specs.States.{is_size}
use Rattle.pool_state.specs.Decode.{least_words}

unfoldable pub words_rule : ℕ → ℕ → ℕ → ℕ × ℕ
words_rule m n j = cond (is_size m n && leb j m) (0, least_words m n j) (1, 0)
