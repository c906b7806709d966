-- The same on the tries of lists: a node is kept that has two children or none.
--
--   kept l r          a node with these children is a member or a branch point
--   kept_size t        how many such nodes t has
--   kept_steps_t q t    how many of them are on the way down q
use Rattle.std.specs.Prelude.{Bool, true, cond, [], ◌∷◌, ℕ, ◌+◌}
use Rattle.std.specs.Bool.{beq as same}
use Rattle.nets.specs.Bits.{Bits}
use Rattle.nets.specs.Tries.{Trie, none, node, is_none, side}

abbrev pub kept : Trie → Trie → Bool
kept l r = same (is_none l) (is_none r)

unfoldable pub kept_size : Trie → ℕ
kept_size none = 0
kept_size (node l r) = cond (kept l r) 1 0 + kept_size l + kept_size r

unfoldable pub kept_steps_t : Bits → Trie → ℕ
kept_steps_t [] none = 0
kept_steps_t [] (node l r) = cond (kept l r) 1 0
kept_steps_t (b ∷ q) none = 0
kept_steps_t (b ∷ q) (node l r) = cond (kept l r) 1 0 + kept_steps_t q (side b l r)
