-- `take` meets its contract: the line is no network, or adding its network says what becomes of it. Assumes nothing.
use Rattle.lines_take.proofs.Taking.{took-refused, took-added}
use Rattle.lines_take.proofs.take.Goals as goal

pub add_found-then-requires : goal.add_found-then-requires
add_found-then-requires c = c.requires

pub returns-in-Err : goal.returns-in-Err
returns-in-Err c = took-refused c.args.line.now c.in-Err.is c.read_line.ensures

pub returns-in-Ok : goal.returns-in-Ok
returns-in-Ok c = took-added c.args.line.now c.in-Ok.is c.read_line.ensures c.add_found-then.result c.add_found-then.ensures
