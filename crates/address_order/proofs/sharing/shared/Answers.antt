-- `sharing::shared` meets its contract: what is answered is shared, and no more is. Assumes nothing.
use native.Mathlib.Omega.{arith}
use Rattle.nets.proofs.Numbers.{width-le}
use Rattle.address_order.proofs.Streams.{shared-left, shared-right}
use Rattle.address_order.proofs.Common.{zeros-family, zeros-shared, shared_zeros}
use Rattle.address_order.proofs.sharing.shared.Goals as goal

pub overflow_sub-same : goal.overflow_sub-same
overflow_sub-same c = omega (arith, c.width.ensures, width-le c.args.a.family)

pub overflow_sub-same-2 : goal.overflow_sub-same-2
overflow_sub-same-2 c = let p = c.requires in
    zeros-family _ _ p.0 p.1.0 p.1.1 _ c.width.ensures (omega arith) (omega arith) _ (omega (arith, c.zeros.ensures))

pub returns : goal.returns
returns c = let p = c.requires in
    let z = c.zeros.ensures in
    let left = shared-left _ _ p.0 p.1.0 p.1.1 in
    let right = shared-right _ _ p.0 p.1.0 p.1.1 in
    let all = shared_zeros _ _ p.0 p.1.0 p.1.1 _ c.width.ensures (omega arith) (omega arith) _ z in
    let some = zeros-shared _ _ p.0 p.1.0 p.1.1 _ c.width.ensures (omega arith) (omega arith) _ z c.min-2.result (omega arith) (omega arith) (omega arith) in
    omega arith
