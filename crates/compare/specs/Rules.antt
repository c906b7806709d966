-- The comparison of two sets, the first and the second.
--
--   same_list l m             two lists are one
--   equal_rule d first second     the answer of equal: 2, 3, else whether the two lists are one
--   Agree w p q n r          r says whether n words from p on are those from q on
--   Nodes w b s i j n        what it takes to compare n nodes, of s words each, from node i and from node j on, in words whose nodes begin at b
use Rattle.std.specs.Prelude.{Bool, true, false, ◌&&◌, List, [], ◌∷◌, ◌≡◌, ℕ, ◌+◌, ◌-◌, ◌*◌, ◌≤◌, ◌<◌, length, get_or}
use Rattle.nets.specs.Bits.{Bits, equal}
use Rattle.pool_state.specs.Decode.{Decoded}
use Rattle.pool_state.specs.Rules.{answer_on, unknown}
use Rattle.pool_state.specs.Changes.{list_at}

abbrev pub same_list : List Bits → List Bits → Bool
same_list [] [] = true
same_list [] (q ∷ m) = false
same_list (p ∷ l) [] = false
same_list (p ∷ l) (q ∷ m) = equal p q && same_list l m

unfoldable pub equal_rule : Decoded → ℕ → ℕ → ℕ × Bool
equal_rule d first second = answer_on d (λ S. unknown S first ∷ unknown S second ∷ []) false (λ S. same_list (list_at S first) (list_at S second))

abbrev pub Agree : List ℕ → ℕ → ℕ → ℕ → Bool → Type 0
Agree w p q n true = (k : ℕ) → k < n → get_or w (p + k) 0 ≡ get_or w (q + k) 0
Agree w p q n false = (k : ℕ) × (k < n) × (get_or w (p + k) 0 ≡ get_or w (q + k) 0 → ⊥)

pub record Nodes (w : List ℕ) (b s i j n : ℕ) : Type 0 where
  pub few : s ≤ 8
  pub low : b ≤ 576
  pub one : 1 ≤ i
  pub other : 1 ≤ j
  pub small : i - 1 + n ≤ 4194304
  pub little : j - 1 + n ≤ 4194304
  pub fits : b + 8 * (i - 1 + n) ≤ length w
  pub within : b + 8 * (j - 1 + n) ≤ length w
