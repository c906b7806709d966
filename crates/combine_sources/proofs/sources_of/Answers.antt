-- `sources_of` meets its contract: a word is small. Assumes nothing.
use native.Mathlib.Omega.{arith}
use borrow.Author.Rules.{rules}
use Rattle.pool_state.specs.Decode.{record_at}
use Rattle.pool_state.proofs.Seen.{Figures, figures}
use Rattle.combine_sources.proofs.sources_of.Goals as goal

pub bounds-pool-2 : goal.bounds-pool-2
bounds-pool-2 c = let f = (figures c.requires.1.surveyed) in omega arith

pub overflow_cast-result : goal.overflow_cast-result
overflow_cast-result c = omega (arith, c.type_inv.pool 2)

pub overflow_mul-result : goal.overflow_mul-result
overflow_mul-result c = omega (arith, c.type_inv.pool 2)

pub overflow_add-result : goal.overflow_add-result
overflow_add-result c = omega (arith, c.type_inv.pool 2)

pub bounds-pool-first : goal.bounds-pool-first
bounds-pool-first c = let f = (figures c.requires.1.surveyed) in omega (arith, c.requires.1.known.0)

pub overflow_cast-result-3 : goal.overflow_cast-result-3
overflow_cast-result-3 c = omega (arith, c.type_inv.pool (record_at c.args.first))

pub nodes_of-requires : goal.nodes_of-requires
nodes_of-requires c = let h = c.requires in ((h.0, h.1.surveyed), h.1.known.0)

pub bounds-pool-second : goal.bounds-pool-second
bounds-pool-second c = let f = (figures c.requires.1.surveyed) in omega (arith, c.requires.1.known.1)

pub overflow_cast-result-5 : goal.overflow_cast-result-5
overflow_cast-result-5 c = omega (arith, c.type_inv.pool (record_at c.args.second))

pub nodes_of-requires-2 : goal.nodes_of-requires-2
nodes_of-requires-2 c = let h = c.requires in ((h.0, h.1.surveyed), h.1.known.1)

pub bounds-pool-1 : goal.bounds-pool-1
bounds-pool-1 c = let f = (figures c.requires.1.surveyed) in omega arith

pub returns : goal.returns
returns c = rw (c.most_levels.ensures, c.nodes_of-2.ensures, c.nodes_of.ensures)
