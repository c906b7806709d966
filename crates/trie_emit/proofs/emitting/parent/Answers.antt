-- `emitting::parent` meets its contract, by its tests. Assumes nothing.
use native.Mathlib.Omega.{arith}
use Rattle.trie_emit.proofs.Answers.{end_is, over_none, over-leaf, over-node}
use Rattle.trie_emit.proofs.emitting.parent.Goals as goal

pub end_of-e-requires : goal.end_of-e-requires
end_of-e-requires c = let d = c.requires.2 in omega (arith, c.end_of.ensures, end_is _ _ _ d.first)

pub returns-then-e-o : goal.returns-then-e-o
returns-then-e-o c t u d = over_none _ _ d _ _ c.end_of.ensures c.end_of-e.ensures c.if-e-o.true

pub returns-then-joins : goal.returns-then-joins
returns-then-joins c t u d = over-leaf _ _ d _ _ c.end_of.ensures c.end_of-e.ensures _ c.joins.ensures c.if-joins.true

pub returns : goal.returns
returns c t u d = over-node _ _ d _ _ c.end_of.ensures c.end_of-e.ensures _ c.joins.ensures c.if-e-o.false c.if-joins.false
