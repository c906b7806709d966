-- `order::is_in` meets its contract: a network leads another where it shares all its bits with it. Assumes nothing.
use mathlib.Core.Path.{sym}
use Rattle.salvage_batch.proofs.Orders.{clean-families, clean-refusal, leads-shared}
use Rattle.salvage_batch.proofs.order.is_in.Goals as goal

pub shared-requires : goal.shared-requires
shared-requires c = let p = c.requires in (clean-families p.1 p.2, (clean-refusal p.1, clean-refusal p.2))

pub returns : goal.returns
returns c = let p = c.requires in leads-shared p.1 p.2 c.shared.ensures
