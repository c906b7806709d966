-- `answering::over_nodes` meets its contract, by its tests. Assumes nothing.
use mathlib.Core.Bool.{false≢true}
use mathlib.Core.Path.{sym, ◌∙◌}
use Rattle.trie_spans.proofs.Answered.{over-nodes-none, over-nodes-leaf, over-nodes-some}
use Rattle.trie_spans.proofs.answering.over_nodes.Goals as goal
use Rattle.trie_spans.proofs.answering.over_nodes.Goals.{else-joined-via-then-joined+then-l-eq1+else-r-eq1, else-joined-via-then-joined+else-l-eq1, else-joined-via-else-joined}

pub returns-then-n-eq0 : goal.returns-then-n-eq0
returns-then-n-eq0 c t u p q = over-nodes-none _ _ _ t u p q c.if-n-eq0.true

pub returns-then-r-eq1 : goal.returns-then-r-eq1
returns-then-r-eq1 c t u p q = over-nodes-leaf _ _ _ t u p q c.if-joined.true c.if-l-eq1.true c.if-r-eq1.true

pub returns : goal.returns
returns c t u p q = over-nodes-some _ _ _ t u p q c.if-n-eq0.false (λ e x y. elim c.else-joined.branch [
  | else-joined-via-then-joined+then-l-eq1+else-r-eq1 w ↦ w.if-r-eq1.false y
  | else-joined-via-then-joined+else-l-eq1 w ↦ w.if-l-eq1.false x
  | else-joined-via-else-joined w ↦ false≢true (sym w.if-joined.false ∙ e)
])
