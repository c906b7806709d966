-- How many words a node takes, by the words of the header. Assumes nothing.
use mathlib.Core.List.{List}
use mathlib.Core.Path.{◌≡◌, sym}
use Prim.Native.Nat.{ℕ}
use lib.ListN.{get_or}
use Rattle.kept_nodes.proofs.Places.{stride-4, stride-6}
use Rattle.pool_state.specs.Kept.{stride_l}
use Rattle.pool_state.specs.Steps.{stride_in}
use Rattle.pool_state.proofs.Kept.{form-some}

module _ (w : List ℕ) where
  pub stride-plain : get_or w 5 0 ≡ 0 → 1 ≡ stride_in w
  unfolding stride_in stride_l
  stride-plain z = rw z

  module _ (ne : get_or w 5 0 ≡ 0 → ⊥) where
    pub stride-short : get_or w 1 0 ≡ 4 → 2 ≡ stride_in w
    unfolding stride_in stride_l
    stride-short z = rw (form-some (get_or w 5 0) ne) (sym (stride-4 (get_or w 1 0) z))

    pub stride-long : (get_or w 1 0 ≡ 4 → ⊥) → 5 ≡ stride_in w
    unfolding stride_in stride_l
    stride-long z = rw (form-some (get_or w 5 0) ne) (sym (stride-6 (get_or w 1 0) z))
