-- `is_nearer` meets its contract. Assumes nothing.
use Rattle.kept_next.proofs.is_nearer.Goals as goal

pub returns-in-None : goal.returns-in-None
returns-in-None c = rw c.in-None.is

pub is_before-requires : goal.is_before-requires
is_before-requires c = c.requires _ c.in-Some.is

pub returns-in-Some : goal.returns-in-Some
returns-in-Some c = rw c.in-Some.is c.is_before.ensures
