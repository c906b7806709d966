-- `blocks::end` meets its contract: by what is shown, or the query is no network. Assumes nothing.
use mathlib.Core.Path.{◌∙◌}
use borrow.Author.Rules.{rules}
use Rattle.lookup_many.proofs.Ending.{ending, end-shown, end_refused}
use Rattle.lookup_many.proofs.blocks.end.Goals as goal

pub shown-s-requires : goal.shown-s-requires
shown-s-requires c = let h = c.requires in
    (h.0, ending _ h.0 h.1 c.prefix_bits-q.ensures c.in-Ok.is)

pub returns-in-Ok : goal.returns-in-Ok
returns-in-Ok c = end-shown _ _ _ _ _ c.number_of.ensures c.shown-s.ensures

pub returns-in-Err : goal.returns-in-Err
returns-in-Err c = let h = c.requires in
    c.number_of-in-Err.ensures ∙ end_refused _ h.0 h.1 c.prefix_bits-q.ensures _ c.in-Err.is
