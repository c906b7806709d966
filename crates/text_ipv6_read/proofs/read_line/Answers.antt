-- `read_line` meets its contract: the network that a line reads as is taken in. Assumes nothing.
use Rattle.text_ipv6_read.proofs.Answers.{entered_line6-network, entered_line6-refused}
use Rattle.nets.proofs.Propagated.{propagated}
use Rattle.text_ipv6_read.proofs.read_line.Goals as goal

pub returns : goal.returns
returns c = entered_line6-network c.args.line.now c.to_network.result c.in_ok-n.was c.read.ensures c.to_network.ensures

pub returns-in_err-n : goal.returns-in_err-n
returns-in_err-n c = rw (propagated c.from_residual.ensures) (entered_line6-refused c.args.line.now c.in_err-n.was c.read.ensures)
