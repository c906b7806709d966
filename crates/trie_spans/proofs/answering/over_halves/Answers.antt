-- `answering::over_halves` meets its contract: nothing, a leaf, or the node over both. Assumes nothing.
use mathlib.Core.Path.{refl}
use native.Mathlib.Omega.{arith}
use Rattle.trie_spans.proofs.Answered.{over-few, over-fits, over-put, over-stays, over-stays-two}
use Rattle.trie_spans.proofs.answering.over_halves.Goals as goal

pub returns-then-n-lt2 : goal.returns-then-n-lt2
returns-then-n-lt2 c v t u h = over-few h _ (c.over_nodes-n.ensures t u h.first h.second) c.if-n-lt2.true

pub leaf-requires : goal.leaf-requires
leaf-requires c = let (v, t, u, h) = c.requires in
    let f = over-fits h _ (c.over_nodes-n.ensures t u h.first h.second) c.if-n-lt2.false _ refl in
    (omega arith, λ q. omega arith)

pub leaf-requires-2 : goal.leaf-requires-2
leaf-requires-2 c = let (v, t, u, h) = c.requires in
    let f = over-fits h _ (c.over_nodes-n.ensures t u h.first h.second) c.if-n-lt2.false _ refl in
    let g = over-stays h _ (c.over_nodes-n.ensures t u h.first h.second) c.if-n-lt2.false _ refl _ _ _ c.leaf.ensures in
    (omega arith, λ q. omega arith)

pub links-requires : goal.links-requires
links-requires c = let (v, t, u, h) = c.requires in
    let f = over-fits h _ (c.over_nodes-n.ensures t u h.first h.second) c.if-n-lt2.false _ refl in
    let g = over-stays-two h _ (c.over_nodes-n.ensures t u h.first h.second) c.if-n-lt2.false _ refl _ _ _ _ _ _ c.leaf.ensures c.leaf-2.ensures in
    omega arith

pub returns : goal.returns
returns c v t u h = over-put h _ (c.over_nodes-n.ensures t u h.first h.second) c.if-n-lt2.false _ refl _ _ _ c.leaf.ensures c.leaf-2.ensures c.links.ensures
