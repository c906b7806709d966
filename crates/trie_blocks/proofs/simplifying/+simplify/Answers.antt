-- `simplifying::simplify` meets its contract, by the trie's levels. Assumes nothing.
use native.Mathlib.Omega.{arith}
use Rattle.trie_blocks.proofs.Simplify.{seen_none, seen-leaf, seen-inner, fork-fuel, left-source, rest-source, pending, simplified}
use Rattle.trie_blocks.proofs.Blocks.{segment-asks, left-apart, right-apart, whole_apart}
use Rattle.trie_blocks.proofs.simplifying.+simplify.Goals as goal

pub moved-requires : goal.moved-requires
moved-requires τ c = let p = c.requires in ((p.0.0, _, p.0.1), whole_apart p.1 c.if-e-next.true)

pub returns-then-e-next : goal.returns-then-e-next
returns-then-e-next τ c t g = c.moved.ensures t _ g

pub look-v-requires : goal.look-v-requires
look-v-requires τ c = let (t, g) = c.requires.0 in (t, g.rest, g.u, g.here)

pub overflow_sub-fuel : goal.overflow_sub-fuel
overflow_sub-fuel τ c = let (t, g) = c.requires.0 in
    let f = seen-inner _ t g (rw c.in-Inner.is at (c.look-v.ensures t g.rest g.u g.here)) in
    fork-fuel f.1

pub simplify-l-requires : goal.simplify-l-requires
simplify-l-requires τ c = let (t, g) = c.requires.0 in
    let f = seen-inner _ t g (rw c.in-Inner.is at (c.look-v.ensures t g.rest g.u g.here)) in
    (omega (arith, fork-fuel f.1, c.decreases), ((f.0.l, left-source f.1), left-apart f.1 c.requires.1))

pub join_from-p-requires : goal.join_from-p-requires
join_from-p-requires τ c = let (t, g) = c.requires.0 in
    let f = seen-inner _ t g (rw c.in-Inner.is at (c.look-v.ensures t g.rest g.u g.here)) in
    let h = (rest-source f.1 _ _ _ c.simplify-l.ensures c.end_of-k.ensures).here in
    record { le_m = segment-asks h; apart = right-apart f.1 c.requires.1 h }

pub overflow_sub-fuel-in-Inner : goal.overflow_sub-fuel-in-Inner
overflow_sub-fuel-in-Inner τ c = let (t, g) = c.requires.0 in
    let f = seen-inner _ t g (rw c.in-Inner.is at (c.look-v.ensures t g.rest g.u g.here)) in
    fork-fuel f.1

pub simplify-r-requires : goal.simplify-r-requires
simplify-r-requires τ c = let (t, g) = c.requires.0 in
    let f = seen-inner _ t g (rw c.in-Inner.is at (c.look-v.ensures t g.rest g.u g.here)) in
    (omega (arith, fork-fuel f.1, c.decreases), ((f.0.r, rest-source f.1 _ _ _ c.simplify-l.ensures c.end_of-k.ensures), c.join_from-p.ensures))

pub finish-requires : goal.finish-requires
finish-requires τ c = let (t, g) = c.requires.0 in
    let f = seen-inner _ t g (rw c.in-Inner.is at (c.look-v.ensures t g.rest g.u g.here)) in
    (_, _, _, pending f.1 _ _ _ c.simplify-l.ensures c.end_of-k.ensures _ _ c.simplify-r.ensures)

pub returns-in-Nothing : goal.returns-in-Nothing
returns-in-Nothing τ c t g = seen_none _ _ _ _ t (rw c.in-Nothing.is at (c.look-v.ensures t g.rest g.u g.here))

pub returns-in-Leaf : goal.returns-in-Leaf
returns-in-Leaf τ c t g = seen-leaf _ _ _ _ t (rw c.in-Leaf.is at (c.look-v.ensures t g.rest g.u g.here))

pub returns-in-Inner : goal.returns-in-Inner
returns-in-Inner τ c t g = let f = seen-inner _ t g (rw c.in-Inner.is at (c.look-v.ensures t g.rest g.u g.here)) in
    rw f.0.is (simplified f.1 _ _ _ c.simplify-l.ensures c.end_of-k.ensures _ _ c.simplify-r.ensures _ _ c.finish.ensures)
