-- `equal` has one outcome. Assumes nothing.
use mathlib.Core.List.{List}
use mathlib.Core.Path.{◌≡◌, sym, ◌∙◌}
use Prim.Native.Nat.{ℕ}
use Rattle.pool_state.specs.Decode.{decode}
use Rattle.pool_state.specs.Rules.{told_as}
use Rattle.pool_state.proofs.Determined.{told_as-one}
use Rattle.compare.specs.Rules.{equal_rule}
use Rattle.std.specs.Prelude.{Result, Bool}
use Rattle.nets.specs.declared.Refusal.{Refusal}

pub equal-determined : (w : List ℕ) (first second : ℕ) (r s : Result Bool Refusal) → told_as r ≡ equal_rule (decode w) first second → told_as s ≡ equal_rule (decode w) first second → r ≡ s
equal-determined w first second r s e f = told_as-one r s (e ∙ sym f)
