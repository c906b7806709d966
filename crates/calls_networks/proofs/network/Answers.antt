-- `networks::network` meets its contract, arm by arm. Assumes nothing.
use borrow.Author.Tests.{ne_eqb}
use Rattle.calls_bytes.proofs.Rows.{rest-is}
use Rattle.calls_networks.specs.Networks.{network_of}
use borrow.Author.Rules.{rules}
use Rattle.calls_networks.proofs.network.Goals as goal

pub returns-in-17 : goal.returns-in-17
unfolding network_of
returns-in-17 c = let s = c.args.s.now in
    rw c.in-17.is (rw (c.read_line.ensures, rest-is s 35) at c.of_entered.ensures)

pub returns-in-32 : goal.returns-in-32
unfolding network_of
returns-in-32 c = rw c.in-32.is (rw c.new.ensures at c.of_taken.ensures)

pub returns-in-33 : goal.returns-in-33
unfolding network_of
returns-in-33 c = rw c.in-33.is (rw c.to_network.ensures at c.of_entered-in-33.ensures)

pub returns-in-34 : goal.returns-in-34
unfolding network_of
returns-in-34 c = rw c.in-34.is (rw c.with_new_prefix.ensures at c.of_taken-in-34.ensures)

pub returns-in-35 : goal.returns-in-35
unfolding network_of
returns-in-35 c = rw c.in-35.is (rw c.prefix_bits.ensures at c.of_prefix.ensures)

pub returns-in-36 : goal.returns-in-36
unfolding network_of
returns-in-36 c = rw c.in-36.is (rw (c.next.ensures, c.bits_of.ensures) at c.of_bit.ensures)

pub returns-in-41 : goal.returns-in-41
unfolding network_of
returns-in-41 c = let s = c.args.s.now in
    rw c.in-41.is (rw (c.read_line-in-41.ensures, rest-is s 35) at c.of_entered-in-41.ensures)

pub returns-in-42 : goal.returns-in-42
unfolding network_of
returns-in-42 c = let s = c.args.s.now in
    rw c.in-42.is (rw (c.read_line-in-42.ensures, rest-is s 35) at c.of_entered-in-42.ensures)

pub returns-in_default : goal.returns-in_default
unfolding network_of
returns-in_default c = let r = c.in_default.in_default-own.rest in
    rw (ne_eqb _ _ r.0.0.0.0.0.0.0.1, ne_eqb _ _ r.0.0.0.0.0.0.1, ne_eqb _ _ r.0.0.0.0.0.1, ne_eqb _ _ r.0.0.0.0.1, ne_eqb _ _ r.0.0.0.1, ne_eqb _ _ r.0.0.1, ne_eqb _ _ r.0.1, ne_eqb _ _ r.1) c.made.ensures
