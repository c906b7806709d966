-- `blocks::lane` meets its contract, by the answer of prefix_bits. Assumes nothing.
use mathlib.Core.Path.{ap, ◌∙◌}
use borrow.Author.Rules.{rules}
use Rattle.lookup_many.proofs.Ending.{lane_of-some, lane_of-none}
use Rattle.lookup_many.proofs.blocks.lane.Goals as goal

pub returns-in-Ok : goal.returns-in-Ok
returns-in-Ok c = rw c.first.ensures (lane_of-some _ _ _ c.prefix_bits-q.ensures c.in-Ok.is)

pub returns-in-Err : goal.returns-in-Err
returns-in-Err c = lane_of-none _ _ _ c.prefix_bits-q.ensures c.in-Err.is
