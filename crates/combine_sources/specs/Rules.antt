-- The rules of the calls on two sets, the first and the second.
--
--   combine_rules to first second S   the rules of the three sets as arguments: 3 a source that is no set, then 8 a destination that isn't empty
--   Combined L w to first second r v    from the words w a call that gives the set `to` the list L of the two lists answers r and leaves the words v
use Rattle.std.specs.Prelude.{List, [], ◌∷◌, ℕ}
use Rattle.nets.specs.Bits.{Bits}
use Rattle.nets.specs.Refusals.{Rule}
use Rattle.pool_state.specs.States.{State}
use Rattle.pool_state.specs.Rules.{unknown}
use Rattle.pool_state.specs.Changes.{list_at, occupied, Relisted}

unfoldable pub combine_rules : ℕ → ℕ → ℕ → State → List Rule
combine_rules to first second S = unknown S first ∷ unknown S second ∷ occupied S to ∷ []

-- a source that is the destination is empty, as that has to be
abbrev pub Combined : (List Bits → List Bits → List Bits) → List ℕ → ℕ → ℕ → ℕ → ℕ × ℕ → List ℕ → Type 0
Combined L w to first second r v = Relisted w to (combine_rules to first second) (λ S. L (list_at S first) (list_at S second)) r v
