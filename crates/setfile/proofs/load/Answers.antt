-- `load` meets its contract, each return by the tests on the way to it. Assumes nothing.
use Rattle.pool_state.proofs.Counted.{counted-refused, counted-fits, counted-settles, counted-granted}
use Rattle.setfile.proofs.Loads.{asked, load-counted, load-writes, load-wrote}
use Rattle.nets.proofs.Propagated.{propagated}
use Rattle.setfile.proofs.load.Goals as goal

pub is_admitted-clear-requires : goal.is_admitted-clear-requires
is_admitted-clear-requires c = let h = asked c.ask.ensures c.in_ok-v.was in
    record { surveyed = h.surveyed; bytes_value = (h.list, h.reads) }

pub judge-requires : goal.judge-requires
judge-requires c = (asked c.ask.ensures c.in_ok-v.was).surveyed

pub write-requires : goal.write-requires
write-requires c = let h = asked c.ask.ensures c.in_ok-v.was in (_, load-writes h (counted-fits (load-counted h c.is_admitted-clear.ensures) c.judge.ensures c.in_ok-judge.was))

pub granted-requires : goal.granted-requires
granted-requires c = let h = asked c.ask.ensures c.in_ok-v.was in
    let z = c.in_ok-judge.was in
    counted-settles (load-counted h c.is_admitted-clear.ensures) c.judge.ensures z (load-wrote h (counted-fits (load-counted h c.is_admitted-clear.ensures) c.judge.ensures z) c.write.ensures)

pub returns-in_err-v : goal.returns-in_err-v
returns-in_err-v c = rw (propagated c.from_residual.ensures) (rw c.in_err-v.was at c.ask.ensures)

pub returns-in_err-judge : goal.returns-in_err-judge
returns-in_err-judge c = rw (propagated c.from_residual-in_err-judge.ensures) (counted-refused (load-counted (asked c.ask.ensures c.in_ok-v.was) c.is_admitted-clear.ensures) c.judge.ensures _ c.in_err-judge.was)

pub returns : goal.returns
returns c = let h = asked c.ask.ensures c.in_ok-v.was in
    let z = c.in_ok-judge.was in
    counted-granted (load-counted h c.is_admitted-clear.ensures) c.judge.ensures z (load-wrote h (counted-fits (load-counted h c.is_admitted-clear.ensures) c.judge.ensures z) c.write.ensures) c.granted.ensures.0 c.granted.ensures.1
