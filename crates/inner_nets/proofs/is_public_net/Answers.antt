-- `is_public_net` meets its contract, by the bits of the network. Assumes nothing.
use Rattle.inner_nets.proofs.Numbered.{net-few, net-clear, net-refused}
use Rattle.inner_nets.proofs.is_public_net.Goals as goal

pub is_clear-requires : goal.is_clear-requires
is_clear-requires c = net-few _ _ c.prefix_bits.ensures _ c.in-Ok.is

pub returns-in-Ok : goal.returns-in-Ok
returns-in-Ok c = net-clear _ _ c.prefix_bits.ensures _ c.in-Ok.is _ c.is_clear.ensures

pub returns-in-Err : goal.returns-in-Err
returns-in-Err c = net-refused _ _ c.prefix_bits.ensures _ c.in-Err.is
