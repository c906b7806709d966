-- `inner_nets` meets its contract, by its test. Assumes nothing.
use Rattle.inner_nets.specs.Inner.{inner_nets4, inner_nets6}
use Rattle.inner_nets.proofs.Numbered.{inner_nets-4, inner_nets-6}
use Rattle.inner_nets.proofs.inner_nets.Goals as goal

pub returns-then-family : goal.returns-then-family
unfolding inner_nets4
returns-then-family c = rw (inner_nets-4 _ c.if-family.true)

pub returns-else-family : goal.returns-else-family
unfolding inner_nets6
returns-else-family c = rw (inner_nets-6 _ c.if-family.false)
