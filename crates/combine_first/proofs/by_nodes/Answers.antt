-- `by_nodes` meets its contract: what has begun is either sure to fit or counted. Assumes nothing.
use borrow.Author.Rules.{rules}
use Rattle.combine_first.proofs.Calls.{ready-reads, begins, begun-few, begun-clear}
use Rattle.combine_sources.proofs.Asked.{ready-levels}
use Rattle.combine_first.proofs.by_nodes.Goals as goal

pub is_admitted-clear-requires : goal.is_admitted-clear-requires
is_admitted-clear-requires c = let p = c.requires in
    let b = p.0.2 in
    record { surveyed = (b.ready.surveyed, ready-levels b.ready b.sources); reads = (_, _, ready-reads b.ready p.1 b.sources) }

pub surely_fits-requires : goal.surely_fits-requires
surely_fits-requires c = let b = begins c.requires.0.2 c.requires.1 c.is_admitted-clear.ensures in
    record { surveyed = b.started.ready.surveyed; nodes_bound = begun-few b }

pub uncounted-requires : goal.uncounted-requires
uncounted-requires c = let sure = c.surely_fits.ensures c.if-surely_fits.true in
    ((_, _, begun-clear sure.0 (begins c.requires.0.2 c.requires.1 c.is_admitted-clear.ensures)), sure.1)

pub returns-then-surely_fits : goal.returns-then-surely_fits
returns-then-surely_fits c first second b = c.uncounted.ensures _ _ (begun-clear (c.surely_fits.ensures c.if-surely_fits.true).0 (begins b c.requires.1 c.is_admitted-clear.ensures))

pub counted-requires : goal.counted-requires
counted-requires c = (_, _, begins c.requires.0.2 c.requires.1 c.is_admitted-clear.ensures)

pub returns : goal.returns
returns c first second b = c.counted.ensures _ _ (begins b c.requires.1 c.is_admitted-clear.ensures)
