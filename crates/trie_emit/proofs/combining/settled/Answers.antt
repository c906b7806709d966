-- `combining::settled` meets its contract, by its tests. Assumes nothing.
use Rattle.trie_emit.proofs.Sources.{settled-or, settled-and, settled-but}
use Rattle.trie_emit.proofs.combining.settled.Goals as goal

pub returns-then-op-eq0 : goal.returns-then-op-eq0
returns-then-op-eq0 c k l ex ey = rw (c.max.ensures, ex, ey) (settled-or _ k l c.if-op-eq0.true)

pub returns-then-op-eq1 : goal.returns-then-op-eq1
returns-then-op-eq1 c k l ex ey = rw (c.min.ensures, ex, ey) (settled-and _ k l c.if-op-eq1.true)

pub returns : goal.returns
returns c k l ex ey = rw (c.min-2.ensures, ex, ey) (settled-but _ k l c.if-op-eq0.false c.if-op-eq1.false)
