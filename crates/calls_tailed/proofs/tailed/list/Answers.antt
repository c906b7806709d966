-- `tailed::list` meets its contract: the rows are filled, lent, and written behind the answer. Assumes nothing.
use mathlib.Core.Path.{sym}
use lib.Seq.{length-take-le}
use Rattle.calls_tailed.proofs.Lent.{listing-is}
use borrow.Author.Rules.{rules}
use native.Mathlib.Omega.{arith}
use Rattle.calls_tailed.proofs.tailed.list.Goals as goal

pub slice_bounds-rows_by-end-2 : goal.slice_bounds-rows_by-end-2
slice_bounds-rows_by-end-2 c = sym (length-take-le c.args.c.b c.fill_rows.new.rows (omega arith))

pub returns : goal.returns
returns c = let a = c.args in
    listing-is a.pool.now a.rows.now a.c a.out.now a.at c.requires.0 c.fill_rows.ensures c.rows_by-a.ensures c.put_rows.ensures c.of_answer.ensures
