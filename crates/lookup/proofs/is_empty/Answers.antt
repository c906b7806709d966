-- `is_empty` meets its contract, by its test. Assumes nothing.
use native.Mathlib.Omega.{arith}
use borrow.Author.Rules.{rules}
use Rattle.pool_state.proofs.Header.{is_header-header}
use Rattle.lookup.proofs.Asked.{root-header, empty-over, empty-told, empty-refused}
use Rattle.nets.proofs.Propagated.{propagated}
use Rattle.lookup.proofs.is_empty.Goals as goal

pub bounds-pool-3 : goal.bounds-pool-3
bounds-pool-3 c = omega (arith, is_header-header _ (root-header _ _ _ c.root.ensures _ c.in_ok-r.was))

pub returns-then-pool-r : goal.returns-then-pool-r
returns-then-pool-r c = empty-over _ _ _ c.root.ensures _ c.in_ok-r.was c.if-pool-r.true

pub returns : goal.returns
returns c = empty-told _ _ _ c.root.ensures _ c.in_ok-r.was c.if-pool-r.false

pub returns-in_err-r : goal.returns-in_err-r
returns-in_err-r c = rw (propagated c.from_residual.ensures) (empty-refused _ _ _ c.root.ensures _ c.in_err-r.was)
