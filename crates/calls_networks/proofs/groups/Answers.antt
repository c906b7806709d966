-- `networks::groups` meets its contract. Assumes nothing.
use Rattle.calls_networks.specs.Networks.{groups_of}
use borrow.Author.Rules.{rules}
use Rattle.calls_networks.proofs.groups.Goals as goal

pub returns : goal.returns
unfolding groups_of
returns c = cc
