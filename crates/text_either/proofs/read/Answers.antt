-- `read` meets its contract: a line that is none of IPv4 is read as one of IPv6. Assumes nothing.
use Rattle.text_either.proofs.Reading.{either-network, either-other}
use Rattle.text_either.proofs.read.Goals as goal

pub returns-in-Ok : goal.returns-in-Ok
returns-in-Ok c = either-network c.args.line.now c.in-Ok.is c.read.ensures

pub returns-in-Err : goal.returns-in-Err
returns-in-Err c = either-other c.args.line.now c.read-in-Err.result c.in-Err.is c.read.ensures c.read-in-Err.ensures
