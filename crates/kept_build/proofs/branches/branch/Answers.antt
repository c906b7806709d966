-- `branches::branch` meets its contract: the branch point's string is the head's, up to where it leaves the network before it. Assumes nothing.
use native.Mathlib.Omega.{arith}
use Rattle.kept_build.proofs.Leading.{begins-few, begins-within}
use Rattle.kept_build.proofs.branches.branch.Goals as goal

pub overflow_cast-h : goal.overflow_cast-h
overflow_cast-h c = let (s, g, e, le, x) = c.requires in record { fits = omega (arith, begins-few g, e) }

pub leading-s-requires : goal.leading-s-requires
leading-s-requires c = let (s, g, e, le, x) = c.requires in (_, s, g, omega (arith, e))

pub returns : goal.returns
returns c s g e = c.write_node.ensures s (c.leading-s.ensures _ s g (omega (arith, e))) (begins-within g)
