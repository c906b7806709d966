-- `nearest_of_all` meets its contract. The loop's invariant: the nearest of the nodes that were read. Assumes nothing.
use native.Mathlib.Omega.{arith}
use Rattle.kept_next.proofs.Nearer.{search-start, search-looks, search-turn, search-all, follows}
use Rattle.kept_next.proofs.nearest_of_all.Goals as goal

pub loop-k-init : goal.loop-k-init
loop-k-init c t h = search-start h _

pub overflow_cast-k : goal.overflow_cast-k
overflow_cast-k c = let (t, h) = c.requires.1 in
    let g = c.loop-k.invariant t h in
    omega (arith, (search-looks h _ g c.loop-k-test.true _ c.requires.0).node.within, h.room.few)

pub nearest-best-requires : goal.nearest-best-requires
nearest-best-requires c = let h = c.requires.1.1 in
    let g = c.loop-k.invariant _ h in
    (search-looks h _ g c.loop-k-test.true _ c.requires.0, (_, g.near))

pub loop-k-preserved : goal.loop-k-preserved
loop-k-preserved c t h = let g = c.loop-k.invariant t h in search-turn h _ g c.loop-k-test.true (c.nearest-best.ensures _ g.near)

pub returns : goal.returns
returns c t h = let g = c.loop-k.invariant t h in follows t g.near (search-all h _ g c.loop-k-test.false)
