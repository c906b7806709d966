-- `add_range` meets its contract: the networks of the range as a file, which stands in front of the local bytes, poured into the set. Assumes nothing.
use mathlib.Core.Path.{refl, sym}
use lib.ListN.{replicate}
use lib.Seq.{length-take-le}
use Rattle.change_many.proofs.Poured.{span-asked, span-rangeable, range_front, range-pourable}
use Rattle.nets.proofs.Propagated.{propagated}
use Rattle.change_many.proofs.add_range.Goals as goal

pub slice_bounds-range_file-end : goal.slice_bounds-range_file-end
slice_bounds-range_file-end c = refl

pub range_file-n-requires : goal.range_file-n-requires
range_file-n-requires c = span-rangeable (span-asked c.ask_span.ensures c.in_ok-found.was)

pub slice_bounds-local-end : goal.slice_bounds-local-end
slice_bounds-local-end c = let h = span-asked c.ask_span.ensures c.in_ok-found.was in
    let f = range_front (replicate 4334 0) (span-rangeable h) c.range_file-n.ensures in
    f.0

pub slice_bounds-pour_into-end : goal.slice_bounds-pour_into-end
slice_bounds-pour_into-end c = let h = span-asked c.ask_span.ensures c.in_ok-found.was in
    let f = range_front (replicate 4334 0) (span-rangeable h) c.range_file-n.ensures in
    sym (length-take-le _ _ f.0)

pub pour_into-requires : goal.pour_into-requires
pour_into-requires c = let h = span-asked c.ask_span.ensures c.in_ok-found.was in
    let f = range_front (replicate 4334 0) (span-rangeable h) c.range_file-n.ensures in
    (_, _, range-pourable h f.1)

pub returns-in_err-found : goal.returns-in_err-found
returns-in_err-found c = rw (propagated c.from_residual.ensures) ((rw c.in_err-found.was at c.ask_span.ensures) _)

pub returns : goal.returns
returns c = let h = span-asked c.ask_span.ensures c.in_ok-found.was in
    let f = range_front (replicate 4334 0) (span-rangeable h) c.range_file-n.ensures in
    c.pour_into.ensures _ _ (range-pourable h f.1)
