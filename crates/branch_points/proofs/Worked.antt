-- A case of the scope document in the second form: it computes. Assumes nothing.
use mathlib.Core.List.{[], ◌∷◌}
use mathlib.Core.Path.{◌≡◌, refl}
use Rattle.nets.specs.Bits.{bits, before}
use Rattle.nets.proofs.Worked.{ip}
use Rattle.branch_points.specs.BranchPoints.{kept_l}

-- 192.168.0.0/24 and 192.168.1.0/24: both, and the block above them
pub worked-halves : kept_l (ip 192 168 0 0 24 ∷ ip 192 168 1 0 24 ∷ []) ≡ ip 192 168 0 0 23 ∷ ip 192 168 0 0 24 ∷ ip 192 168 1 0 24 ∷ []
unfolding kept_l bits before
worked-halves = refl
