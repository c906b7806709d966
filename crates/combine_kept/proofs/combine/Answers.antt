-- `combine` meets its contract, each return by the verdict. Assumes nothing.
use borrow.Author.Rules.{rules}
use Rattle.pool_state.proofs.Counted.{counted-refused, counted-fits, counted-settles, counted-granted}
use Rattle.nets.proofs.Propagated.{propagated}
use Rattle.combine_kept.proofs.Calls.{reads, made-few, made_counted, made-fits, made-wrote}
use Rattle.combine_kept.proofs.combine.Goals as goal

pub is_admitted-clear-requires : goal.is_admitted-clear-requires
is_admitted-clear-requires c = let p = c.requires in
    record { surveyed = p.0.2.ready.surveyed; kept_reads = (_, _, reads p.0.2 p.1) }

pub count-n-requires : goal.count-n-requires
count-n-requires c = let p = c.requires in (_, _, _, reads p.0.2 p.1)

pub overflow_cast-n : goal.overflow_cast-n
overflow_cast-n c = let p = c.requires in record { fits = made-few p.0.2 p.1 (c.count-n.ensures _ _ _ (reads p.0.2 p.1)) }

pub judge-requires : goal.judge-requires
judge-requires c = c.requires.0.2.ready.surveyed

pub write-requires : goal.write-requires
write-requires c = let p = c.requires in
    let b = p.0.2 in
    let m = c.count-n.ensures _ _ _ (reads b p.1) in
    (_, _, made-fits b p.1 m (counted-fits (made_counted b p.1 m c.is_admitted-clear.ensures) c.judge.ensures c.in_ok-judge.was))

pub granted-requires : goal.granted-requires
granted-requires c = let p = c.requires in
    let b = p.0.2 in
    let m = c.count-n.ensures _ _ _ (reads b p.1) in
    let z = c.in_ok-judge.was in
    let r = made_counted b p.1 m c.is_admitted-clear.ensures in
    let f = counted-fits r c.judge.ensures z in
    counted-settles r c.judge.ensures z (made-wrote b p.1 m f (c.write.ensures _ _ (made-fits b p.1 m f)))

pub returns-in_err-judge : goal.returns-in_err-judge
returns-in_err-judge c first second b = let q = c.requires.1 in
    rw (propagated c.from_residual.ensures)
    (counted-refused (made_counted b q (c.count-n.ensures _ _ _ (reads b q)) c.is_admitted-clear.ensures) c.judge.ensures _ c.in_err-judge.was)

pub returns : goal.returns
returns c first second b = let q = c.requires.1 in
    let m = c.count-n.ensures _ _ _ (reads b q) in
    let z = c.in_ok-judge.was in
    let r = made_counted b q m c.is_admitted-clear.ensures in
    let f = counted-fits r c.judge.ensures z in
    counted-granted r c.judge.ensures z (made-wrote b q m f (c.write.ensures _ _ (made-fits b q m f))) c.granted.ensures.0 c.granted.ensures.1
