-- `cut` meets its contract: what is a network is taken in. Assumes nothing.
use borrow.Author.Rules.{rules}
use Rattle.change_edit.proofs.Edits.{entered-network, entered-refused}
use Rattle.change_edit.proofs.cut.Goals as goal

pub returns-in-Ok : goal.returns-in-Ok
returns-in-Ok c = entered-network _ _ c.to_network-entered.ensures _ _ c.in-Ok.is

pub returns-in-Err : goal.returns-in-Err
returns-in-Err c = absurd (entered-refused _ c.requires _ c.to_network-entered.ensures _ c.in-Err.is)
