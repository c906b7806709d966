-- `simplifying::settle` meets its contract, by its test. Assumes nothing.
use mathlib.Core.Path.{sym}
use native.Mathlib.Omega.{arith}
use Rattle.nodes.proofs.Put.{put-nil}
use Rattle.kept_simplify.proofs.Written.{rest-one, rest_more}
use Rattle.kept_simplify.proofs.simplifying.settle.Goals as goal

pub returns-else-k-eq1 : goal.returns-else-k-eq1
returns-else-k-eq1 c p is le = rw (rest_more _ p _ c.if-k-eq1.false) (sym (put-nil _ _))

pub write_node-requires : goal.write_node-requires
write_node-requires c = let h = c.requires in record { one = h.0; fits = h.3 c.if-k-eq1.true; low = h.2; few = h.1; near = omega arith }

pub returns-then-k-eq1 : goal.returns-then-k-eq1
returns-then-k-eq1 c p is le = rw (rest-one _ p _ c.if-k-eq1.true) (c.write_node.ensures p is le)
