-- `counted` meets its contract, each return by the verdict. Assumes nothing.
use mathlib.Core.Path.{sym, ◌∙◌}
use borrow.Author.Rules.{rules}
use Rattle.pool_state.proofs.OnTries.{result-refused, result_fits, result-settles, result-granted}
use Rattle.nets.proofs.Propagated.{propagated}
use Rattle.combine_first.proofs.Calls.{made-size, begun-reads, result, result-few, result-writes, result-wrote}
use Rattle.combine_first.proofs.counted.Goals as goal

pub count-n-requires : goal.count-n-requires
count-n-requires c = (_, _, _, begun-reads c.requires.2)

pub overflow_cast-n : goal.overflow_cast-n
overflow_cast-n c = let b = c.requires.2 in
    record { fits = result-few b (c.count-n.ensures _ _ _ (begun-reads b) ∙ sym (made-size b)) }

pub judge-requires : goal.judge-requires
judge-requires c = c.requires.2.started.ready.surveyed

pub write-requires : goal.write-requires
write-requires c = let b = c.requires.2 in
    let q = c.count-n.ensures _ _ _ (begun-reads b) ∙ sym (made-size b) in
    (_, _, result-writes b q (result_fits (result b q) c.judge.ensures c.in_ok-judge.was))

pub granted-requires : goal.granted-requires
granted-requires c = let b = c.requires.2 in
    let q = c.count-n.ensures _ _ _ (begun-reads b) ∙ sym (made-size b) in
    let z = c.in_ok-judge.was in
    let f = result_fits (result b q) c.judge.ensures z in
    result-settles (result b q) c.judge.ensures z (result-wrote b q f (c.write.ensures _ _ (result-writes b q f)))

pub returns-in_err-judge : goal.returns-in_err-judge
returns-in_err-judge c first second b = let q = c.count-n.ensures _ _ _ (begun-reads b) ∙ sym (made-size b) in
    rw (propagated c.from_residual.ensures) (result-refused (result b q) c.judge.ensures _ c.in_err-judge.was)

pub returns : goal.returns
returns c first second b = let q = c.count-n.ensures _ _ _ (begun-reads b) ∙ sym (made-size b) in
    let z = c.in_ok-judge.was in
    let f = result_fits (result b q) c.judge.ensures z in
    result-granted (result b q) c.judge.ensures z (result-wrote b q f (c.write.ensures _ _ (result-writes b q f))) c.granted.ensures.0 c.granted.ensures.1
