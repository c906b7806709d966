-- `order::is_beyond` meets its contract, with an edge and without. Assumes nothing.
use Rattle.salvage_batch.proofs.Orders.{ended-some, beyond-none, beyond-some}
use Rattle.salvage_batch.proofs.order.is_beyond.Goals as goal

pub returns-in-None : goal.returns-in-None
returns-in-None c = beyond-none _ c.in-None.is

pub is_ahead-requires : goal.is_ahead-requires
is_ahead-requires c = let p = c.requires in (p.0, ended-some p.2 c.in-Some.is, p.1)

pub returns-in-Some : goal.returns-in-Some
returns-in-Some c = beyond-some _ c.in-Some.is c.is_ahead.ensures
