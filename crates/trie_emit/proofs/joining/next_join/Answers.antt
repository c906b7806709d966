-- `joining::next_join` meets its contract. The loop's invariant: the test names no node before node n. Assumes nothing.
use mathlib.Core.Bool.{false}
use native.Mathlib.Omega.{arith}
use Rattle.trie_emit.proofs.Search.{one_more, all_before}
use Rattle.trie_emit.proofs.joining.next_join.Goals as goal

pub loop-n-init : goal.loop-n-init
loop-n-init g c = λ j le lt fit. absurd (omega arith)

pub loop-n-preserved : goal.loop-n-preserved
loop-n-preserved g c = one_more (λ j. goal.F-post g c.args.is_join j false) _ _ _ c.loop-n.invariant (rw c.if-is_join.false at c.is_join.ensures)

pub returns : goal.returns
returns g c = all_before (λ j. goal.F-post g c.args.is_join j false) _ _ _ c.loop-n.invariant _ c.saturating_sub-n-end.ensures c.loop-n-test.false
