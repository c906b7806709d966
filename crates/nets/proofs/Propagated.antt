-- What a `?` hands on: the refusal of the call that it stands behind. Assumes nothing.
use Rattle.std.specs.Prelude.{◌≡◌, Result, Ok, Err, IsErr, IsErrAnd}
use Rattle.std.proofs.Common.{refl, ap}

pub propagated : {A E : Type 0} {r : Result A E} {e : E} → IsErr r × IsErrAnd r (λ x. x ≡ e) → r ≡ Err e
propagated {r = Ok x} h = absurd (cc h.0)
propagated {r = Err x} h = ap Err h.1
