-- `blocks::end_at` meets its contract: one store. Assumes nothing.
use native.Mathlib.Omega.{arith}
use borrow.Author.Rules.{rules}
use Rattle.lookup_many.proofs.Rows.{fill_one, asked-one}
use Rattle.lookup_many.proofs.Ending.{seat-query}
use Rattle.lookup_many.proofs.blocks.end_at.Goals as goal

pub query_at-net-requires : goal.query_at-net-requires
query_at-net-requires c = omega (arith, c.requires.1.queries)

pub end-requires : goal.end-requires
end-requires c = let h = c.requires in
    (seat-query c.args.queries.now c.args.i _ c.query_at-net.ensures h.0, rw c.query_at-net.ensures h.2)

pub bounds-answers-i : goal.bounds-answers-i
bounds-answers-i c = let h = c.requires in omega (arith, h.1.queries, h.1.answers)

pub returns : goal.returns
returns c = fill_one _ _ _ _ (asked-one _ _ _ _ _ _ (rw c.query_at-net.ensures at c.end.ensures))
