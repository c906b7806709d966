-- `writing::links` meets its contract. Assumes nothing.
use Prim.Native.Nat.{◌≤◌}
use native.Mathlib.Omega.{arith}
use Rattle.nodes.specs.Links.{linked}
use Rattle.nodes.proofs.Linked.{to_first-le, to_second-le}
use Rattle.nodes.proofs.writing.links.Goals as goal

small : (c : goal.After-store-arg-1) → (c.first-x.result ≤ 1) × (c.second-y.result ≤ c.args.m)
small c = let s = c.args in omega (arith, to_first-le s.i s.m, to_second-le s.i s.m s.e)

pub overflow_mul-y : goal.overflow_mul-y
unfolding linked
overflow_mul-y c = omega (arith, small c)

pub overflow_add-x : goal.overflow_add-x
unfolding linked
overflow_add-x c = omega (arith, small c)

pub store-requires : goal.store-requires
unfolding linked
store-requires c = omega (arith, small c)

pub returns : goal.returns
unfolding linked
returns c = rw (c.first-x.ensures, c.second-y.ensures) at c.store.ensures
