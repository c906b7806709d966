-- `emitting::finish` meets its contract, by the arms of the answer of its node. Assumes nothing.
use mathlib.Core.Path.{sym, ◌∙◌}
use native.Mathlib.Omega.{arith}
use Rattle.trie_emit.proofs.Answers.{Empty≢Node, Full≢Node, numbers, finish-flat, finish-node}
use Rattle.trie_emit.proofs.emitting.finish.Goals as goal

pub parent-x-requires : goal.parent-x-requires
parent-x-requires c = let q = c.requires in (q.1, q.2, q.3.both)

pub settle-requires : goal.settle-requires
settle-requires c = let p = c.requires.3 in
    let f = numbers p _ (c.parent-x.ensures _ _ p.both) _ _ c.in-Node.is c.end_of-m.ensures in (omega arith, λ h. omega (arith, f.full-l h))

pub settle-requires-in-Node : goal.settle-requires-in-Node
settle-requires-in-Node c = let p = c.requires.3 in
    let f = numbers p _ (c.parent-x.ensures _ _ p.both) _ _ c.in-Node.is c.end_of-m.ensures in (omega arith, λ h. omega (arith, f.full-r h))

pub links-requires : goal.links-requires
links-requires c = let p = c.requires.3 in
    let f = numbers p _ (c.parent-x.ensures _ _ p.both) _ _ c.in-Node.is c.end_of-m.ensures in omega arith

pub returns-in-Empty : goal.returns-in-Empty
returns-in-Empty c v t u p = finish-flat p _ (c.parent-x.ensures t u p.both) (λ e q. Empty≢Node e (sym c.in-Empty.is ∙ q))

pub returns-in-Full : goal.returns-in-Full
returns-in-Full c v t u p = finish-flat p _ (c.parent-x.ensures t u p.both) (λ e q. Full≢Node e (sym c.in-Full.is ∙ q))

pub returns-in-Node : goal.returns-in-Node
returns-in-Node c v t u p = finish-node p _ (c.parent-x.ensures t u p.both) _ _ c.in-Node.is c.end_of-m.ensures
    _ _ _ c.settle.ensures c.settle-in-Node.ensures c.links.ensures
