-- `emitting::finish` meets its contract, by the arms of the answer of its node. Assumes nothing.
use native.Mathlib.Omega.{arith}
use mathlib.Core.Path.{sym, ◌∙◌}
use Rattle.kept_emit.proofs.Answered.{half-within, path-within, numbers, finish-flat, finish-node, Node≢}
use mathlib.Core.Bool.{true, false}
use Rattle.trie_paths.specs.Spans.{snoc}
use Rattle.kept_emit.proofs.emitting.finish.Goals as goal

pub settle-requires : goal.settle-requires
settle-requires c = let p = c.requires.5 in
    let f = numbers p _ (c.answer_over-x.ensures _ _ p.both) _ c.in-Node.is _ _ (rw c.size_of.ensures at c.saturating_sub-m.ensures) (rw c.size_of-in-Node.ensures at c.saturating_sub-o.ensures) in ((λ h. omega (arith, f.full-l h)), omega (arith, f.second, f.few, f.low))

pub settle-requires-in-Node : goal.settle-requires-in-Node
settle-requires-in-Node c = let p = c.requires.5 in
    let f = numbers p _ (c.answer_over-x.ensures _ _ p.both) _ c.in-Node.is _ _ (rw c.size_of.ensures at c.saturating_sub-m.ensures) (rw c.size_of-in-Node.ensures at c.saturating_sub-o.ensures) in
    ((λ h. omega (arith, f.full-r h)), omega (arith, f.first, f.second, f.few, f.low))

pub top-requires : goal.top-requires
top-requires c = let p = c.requires.5 in
    let f = numbers p _ (c.answer_over-x.ensures _ _ p.both) _ c.in-Node.is _ _ (rw c.size_of.ensures at c.saturating_sub-m.ensures) (rw c.size_of-in-Node.ensures at c.saturating_sub-o.ensures) in
    ((λ h g. omega (arith, f.top-room h g)), omega (arith, f.first, f.second, f.few, f.low))

pub returns-in-Empty : goal.returns-in-Empty
returns-in-Empty c v p t u is h = finish-flat h _ (c.answer_over-x.ensures t u h.both) (λ k q. (Node≢ k).0 (sym c.in-Empty.is ∙ q))

pub returns-in-Full : goal.returns-in-Full
returns-in-Full c v p t u is h = finish-flat h _ (c.answer_over-x.ensures t u h.both) (λ k q. (Node≢ k).1 (sym c.in-Full.is ∙ q))

pub returns-in-Node : goal.returns-in-Node
returns-in-Node c v p t u is h = finish-node h _ (c.answer_over-x.ensures t u h.both) _ c.in-Node.is _ _ (rw c.size_of.ensures at c.saturating_sub-m.ensures)
    (rw c.size_of-in-Node.ensures at c.saturating_sub-o.ensures)
    _ _ _ (c.settle.ensures (snoc p false)
    (c.child-first.ensures _ p is) (half-within h false))
    (c.settle-in-Node.ensures (snoc p true)
    (c.child-second.ensures _ p is) (half-within h true)) (c.top.ensures p is
    (path-within h))
