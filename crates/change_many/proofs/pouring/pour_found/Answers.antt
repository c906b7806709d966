-- `pouring::pour_found` meets its contract: the result is counted and judged, and then written. Assumes nothing.
use native.Mathlib.Omega.{arith}
use Rattle.nets.proofs.Propagated.{propagated}
use Rattle.pool_state.proofs.Counted.{counted-refused, counted-fits, counted-settles, counted-granted}
use Rattle.change_many.proofs.Poured.{pour-sources, pour-few, pour-counted, pour-writable, pour-wrote}
use Rattle.change_many.proofs.pouring.pour_found.Goals as goal

pub seat_in-at-requires : goal.seat_in-at-requires
seat_in-at-requires c = (_, c.requires.2.surveyed)

pub poured_nodes-n-requires : goal.poured_nodes-n-requires
poured_nodes-n-requires c = (_, _, pour-sources c.requires.2 c.seat_in-at.ensures)

pub overflow_cast-n : goal.overflow_cast-n
overflow_cast-n c = let h = c.requires.2 in omega (arith, pour-few h (c.poured_nodes-n.ensures _ _ (pour-sources h c.seat_in-at.ensures)))

pub judge-requires : goal.judge-requires
judge-requires c = c.requires.2.surveyed

pub write-requires : goal.write-requires
write-requires c = let p = c.requires in
    let n = c.poured_nodes-n.ensures _ _ (pour-sources p.2 c.seat_in-at.ensures) in
    (_, _, pour-writable p.2 n (counted-fits (pour-counted p.2 n p.3) c.judge.ensures c.in_ok-judge.was))

pub granted-requires : goal.granted-requires
granted-requires c = let p = c.requires in
    let n = c.poured_nodes-n.ensures _ _ (pour-sources p.2 c.seat_in-at.ensures) in
    let r = pour-counted p.2 n p.3 in
    let o = c.in_ok-judge.was in
    let f = counted-fits r c.judge.ensures o in
    counted-settles r c.judge.ensures o (pour-wrote p.2 n f (c.write.ensures _ _ (pour-writable p.2 n f)))

pub returns-in_err-judge : goal.returns-in_err-judge
returns-in_err-judge c a g h q = rw (propagated c.from_residual.ensures)
    (counted-refused (pour-counted h (c.poured_nodes-n.ensures _ _ (pour-sources h c.seat_in-at.ensures)) q) c.judge.ensures _ c.in_err-judge.was)

pub returns : goal.returns
returns c a g h q = let n = c.poured_nodes-n.ensures _ _ (pour-sources h c.seat_in-at.ensures) in
    let r = pour-counted h n q in
    let o = c.in_ok-judge.was in
    let f = counted-fits r c.judge.ensures o in
    counted-granted r c.judge.ensures o (pour-wrote h n f (c.write.ensures _ _ (pour-writable h n f))) c.granted.ensures.0 c.granted.ensures.1
