-- The call that writes a set's file: the number of its answer and its values, as functions of the words.
--
--   save_rules, save_rule  the answer of save: 3 no such set, 11 fewer bytes than the set's file has, else how many it has
--   bytes_after           the bytes that it leaves;  Saved: both, as its contract
use Rattle.std.specs.Prelude.{List, [], ◌∷◌, ◌≡◌, ℕ, length, Result}
use Rattle.nets.specs.Refusals.{Rule}
use Rattle.nodes.specs.Words.{put}
use Rattle.pool_state.specs.States.{State}
use Rattle.pool_state.specs.Decode.{Decoded, decode}
use Rattle.pool_state.specs.Rules.{answer_on, left_on, unknown, short, answer_as}
use Rattle.pool_state.specs.Changes.{list_at}
use Rattle.setfile_format.specs.Files.{file_of}
use Rattle.nets.specs.declared.Refusal.{Refusal}

-- the file of set k
abbrev pub file_at : State → ℕ → List ℕ
file_at S k = file_of S.family (list_at S k)

unfoldable pub save_rules : ℕ → ℕ → State → List Rule
save_rules k n S = unknown S k ∷ short (length (file_at S k)) n ∷ []

unfoldable pub save_rule : Decoded → ℕ → ℕ → ℕ × ℕ
save_rule d k n = answer_on d (save_rules k n) 0 (λ S. length (file_at S k))

unfoldable pub bytes_after : List ℕ → Decoded → ℕ → List ℕ
bytes_after v d k = left_on d (save_rules k (length v)) v (λ S. put v 0 (file_at S k))

-- from the words w and the bytes v save on set k answers r and leaves the bytes u
pub record Saved (w : List ℕ) (k : ℕ) (v : List ℕ) (r : Result ℕ Refusal) (u : List ℕ) : Type 0 where
  pub answer : answer_as r ≡ save_rule (decode w) k (length v)
  pub bytes : u ≡ bytes_after v (decode w) k
