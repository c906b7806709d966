-- `order::is_past` meets its contract, with an edge and without. Assumes nothing.
use Rattle.salvage_batch.proofs.Orders.{ended-some, past-none, past-some}
use Rattle.salvage_batch.proofs.order.is_past.Goals as goal

pub returns-in-None : goal.returns-in-None
returns-in-None c = past-none _ c.in-None.is

pub is_ahead-requires : goal.is_ahead-requires
is_ahead-requires c = let p = c.requires in (p.0, ended-some p.2 c.in-Some.is, p.1)

pub returns-in-Some : goal.returns-in-Some
returns-in-Some c = past-some _ c.in-Some.is c.is_ahead.ensures
