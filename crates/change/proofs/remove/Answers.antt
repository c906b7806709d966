-- `remove` meets its contract: each return by the law for it, with what the calls on the way to it have found. Assumes nothing.
use borrow.Author.Rules.{rules}
use Rattle.change_ask.proofs.Asking.{asked}
use Rattle.change_edit.proofs.Weighed.{weighed-remove, weighed-refused, weighed-edits, weighed-settles, weighed-granted}
use Rattle.change.proofs.Reported.{reports-refused, reports-granted}
use Rattle.nets.proofs.Propagated.{propagated}
use Rattle.change.proofs.remove.Goals as goal

pub size_with-n-requires : goal.size_with-n-requires
size_with-n-requires c = (_, asked c.ask.ensures c.in_ok-found.was)

pub judge-requires : goal.judge-requires
judge-requires c = (asked c.ask.ensures c.in_ok-found.was).surveyed

pub edit-requires : goal.edit-requires
edit-requires c = let h = asked c.ask.ensures c.in_ok-found.was in
    (_, weighed-edits (weighed-remove h (c.size_with-n.ensures _ h)) c.judge.ensures c.in_ok-judge.was)

pub granted-requires : goal.granted-requires
granted-requires c = let h = asked c.ask.ensures c.in_ok-found.was in
    let g = weighed-remove h (c.size_with-n.ensures _ h) in
    let z = c.in_ok-judge.was in
    weighed-settles g c.judge.ensures z (c.edit.ensures _ (weighed-edits g c.judge.ensures z))

pub returns-in_err-found : goal.returns-in_err-found
returns-in_err-found c = rw (propagated c.from_residual.ensures) (reports-refused c.in_err-found.field-0.0 ((rw c.in_err-found.was at c.ask.ensures) _))

pub returns-in_err-judge : goal.returns-in_err-judge
returns-in_err-judge c = let h = asked c.ask.ensures c.in_ok-found.was in
    let g = weighed-remove h (c.size_with-n.ensures _ h) in
    rw (propagated c.from_residual-in_err-judge.ensures) (reports-refused c.in_err-judge.field-0.0 (weighed-refused g c.judge.ensures _ c.in_err-judge.was))

pub returns : goal.returns
returns c = let h = asked c.ask.ensures c.in_ok-found.was in
    let g = weighed-remove h (c.size_with-n.ensures _ h) in
    let z = c.in_ok-judge.was in
    reports-granted c.has_bit_past.ensures (weighed-granted g c.judge.ensures z (c.edit.ensures _ (weighed-edits g c.judge.ensures z)) c.granted.ensures.1)
