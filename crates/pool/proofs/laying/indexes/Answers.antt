-- `laying::indexes` meets its contract. The loop's invariant: the tags and indexes to come complete it. Assumes nothing.
use mathlib.Core.Path.{◌∙◌}
use native.Mathlib.Omega.{arith}
use lib.ListN.{length-set}
use Rattle.nodes.proofs.Put.{set-put}
use Rattle.pool_state.proofs.Setups.{indexing-start, indexing-fits, indexing-turn, indexing-end}
use Rattle.pool.proofs.laying.indexes.Goals as goal

pub loop-s-init : goal.loop-s-init
loop-s-init c = indexing-start _ _ _ _ c.requires.3

pub index_empty-j-requires : goal.index_empty-j-requires
index_empty-j-requires c = let p = c.requires in
    let t = c.loop-s-test.true in
    (omega (arith, t, p), c.loop-s.invariant.few, omega (arith, t, p), p.2, indexing-fits c.loop-s.invariant t)

pub loop-s-preserved : goal.loop-s-preserved
loop-s-preserved c = indexing-turn c.loop-s.invariant c.loop-s-test.true c.index_empty-j.ensures.0 c.index_empty-j.ensures.1

pub bounds-pool-4 : goal.bounds-pool-4
bounds-pool-4 c = omega (arith, c.requires, c.loop-s.invariant.long)

pub shape_of-pool : goal.shape_of-pool
shape_of-pool c = length-set c.loop-s.pool 4 c.loop-s.j ∙ c.loop-s.invariant.long

pub returns : goal.returns
returns c = set-put c.loop-s.pool 4 c.loop-s.j ∙ indexing-end c.loop-s.invariant c.loop-s-test.false
