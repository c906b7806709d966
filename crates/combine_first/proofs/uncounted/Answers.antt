-- `uncounted` meets its contract: what surely fits is granted. Assumes nothing.
use mathlib.Core.Path.{refl}
use borrow.Author.Rules.{rules}
use Rattle.combine_first.proofs.Calls.{sure-last, appended-settles, appended-granted}
use Rattle.combine_first.proofs.uncounted.Goals as goal

pub append-nodes-requires : goal.append-nodes-requires
append-nodes-requires c = let p = c.requires in (_, _, sure-last p.0.2 p.1 refl)

pub granted-requires : goal.granted-requires
granted-requires c = let p = c.requires in
    appended-settles p.0.2 p.1 refl c.append-nodes.ensures

pub returns : goal.returns
returns c first second b = let p = c.requires in
    appended-granted b p.1 refl c.append-nodes.ensures c.granted.ensures.0 c.granted.ensures.1
