-- `read_line` meets its contract: the network that a line reads as is taken in. Assumes nothing.
use Rattle.text.proofs.RoundTrip.{entered_line-network, entered_line-refused}
use Rattle.nets.proofs.Propagated.{propagated}
use Rattle.text.proofs.read_line.Goals as goal

pub returns : goal.returns
returns c = entered_line-network c.args.line.now c.to_network.result c.in_ok-n.was c.read.ensures c.to_network.ensures

pub returns-in_err-n : goal.returns-in_err-n
returns-in_err-n c = rw (propagated c.from_residual.ensures) (entered_line-refused c.args.line.now c.in_err-n.was c.read.ensures)
