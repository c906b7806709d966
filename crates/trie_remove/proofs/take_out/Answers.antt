-- `removing::take_out` meets its contract: what stands behind moves to where the nodes began, unless there are none. Assumes nothing.
use native.Mathlib.Omega.{arith}
use Rattle.nodes.proofs.Segments.{segment-fit}
use Rattle.trie_remove.proofs.Splices.{take_none, take-some}
use Rattle.trie_remove.proofs.take_out.Goals as goal

pub returns-then-from-e : goal.returns-then-from-e
returns-then-from-e c i t rest g = take_none g _ c.if-from-e.true

pub shift-requires : goal.shift-requires
shift-requires c = let p = c.requires in omega (arith, segment-fit p.1.3, p.0)

pub returns : goal.returns
returns c i t rest g = take-some g _ _ c.shift.ensures
