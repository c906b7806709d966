-- `end` meets its contract, by whether the line is refused. Assumes nothing.
use Rattle.lines.proofs.Steps.{ended-refused, ended-added}
use Rattle.lines.proofs.end.Goals as goal

pub take_kept-took-requires : goal.take_kept-took-requires
take_kept-took-requires c = c.requires

pub returns-in-Err : goal.returns-in-Err
returns-in-Err c = let a = c.args in ended-refused a.pool.now a.g.reader c.take_kept-took.ensures c.in-Err.is c.number.ensures c.requires

pub returns-in-Ok : goal.returns-in-Ok
returns-in-Ok c = let a = c.args in
    ended-added a.pool.now a.g.reader c.take_kept-took.ensures c.in-Ok.is c.wrapping_add_u64.ensures.value c.one_if.ensures c.wrapping_add_u64-in-Ok.ensures.value
