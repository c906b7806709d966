-- `networks::made` meets its contract, arm by arm. Assumes nothing.
use borrow.Author.Tests.{ne_eqb}
use Rattle.calls_networks.specs.Networks.{made_of}
use borrow.Author.Rules.{rules}
use Rattle.calls_networks.proofs.made.Goals as goal

pub returns-in-37 : goal.returns-in-37
unfolding made_of
returns-in-37 c = rw c.in-37.is (rw c.octets.ensures at c.of_net.ensures)

pub returns-in-38 : goal.returns-in-38
unfolding made_of
returns-in-38 c = rw c.in-38.is (rw c.sixteen.ensures at c.of_net-in-38.ensures)

pub returns-in-39 : goal.returns-in-39
unfolding made_of
returns-in-39 c = rw c.in-39.is (rw c.groups.ensures at c.of_net-in-39.ensures)

pub returns-in_default : goal.returns-in_default
unfolding made_of
returns-in_default c = let r = c.in_default.in_default-own.rest in
    rw (ne_eqb _ _ r.0.0.1, ne_eqb _ _ r.0.1, ne_eqb _ _ r.1) (rw c.words_to_network.ensures at c.of_taken.ensures)
