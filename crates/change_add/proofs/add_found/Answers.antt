-- `add_found` meets its contract: each return by the law for it, with what the calls on the way to it have found. Assumes nothing.
use mathlib.Core.Path.{refl}
use borrow.Author.Rules.{rules}
use Rattle.change_ask.proofs.Asking.{asked}
use Rattle.change_edit.proofs.Weighed.{weighed-few, weighed-edits, weighed-settles}
use Rattle.change_add.proofs.Growing.{weighed-add, grow-refused, grow-granted}
use Rattle.nets.proofs.Propagated.{propagated}
use Rattle.change_add.proofs.add_found.Goals as goal

pub ask_found-requires : goal.ask_found-requires
ask_found-requires c = c.requires

pub is_admitted-clear-requires : goal.is_admitted-clear-requires
is_admitted-clear-requires c = let h = asked c.ask_found.ensures c.in_ok-v.was in (h.surveyed, h.few)

pub size_with-n-requires : goal.size_with-n-requires
size_with-n-requires c = (_, asked c.ask_found.ensures c.in_ok-v.was)

pub judge-requires : goal.judge-requires
judge-requires c = (asked c.ask_found.ensures c.in_ok-v.was).surveyed

pub survey_with-then-requires : goal.survey_with-then-requires
survey_with-then-requires c = let h = asked c.ask_found.ensures c.in_ok-v.was in
    let g = weighed-add h c.is_admitted-clear.ensures (c.size_with-n.ensures _ h) in
    (h.surveyed, weighed-few g c.judge.ensures c.in_ok-judge.was)

pub edit-requires : goal.edit-requires
edit-requires c = let h = asked c.ask_found.ensures c.in_ok-v.was in
    let g = weighed-add h c.is_admitted-clear.ensures (c.size_with-n.ensures _ h) in
    (_, weighed-edits g c.judge.ensures c.in_ok-judge.was)

pub granted-requires : goal.granted-requires
granted-requires c = let h = asked c.ask_found.ensures c.in_ok-v.was in
    let g = weighed-add h c.is_admitted-clear.ensures (c.size_with-n.ensures _ h) in
    let z = c.in_ok-judge.was in
    weighed-settles g c.judge.ensures z (c.edit.ensures _ (weighed-edits g c.judge.ensures z))

pub returns-in_err-v : goal.returns-in_err-v
returns-in_err-v c = rw (propagated c.from_residual.ensures) (((rw c.in_err-v.was at c.ask_found.ensures) _, refl))

pub returns-in_err-judge : goal.returns-in_err-judge
returns-in_err-judge c = let h = asked c.ask_found.ensures c.in_ok-v.was in
    let g = weighed-add h c.is_admitted-clear.ensures (c.size_with-n.ensures _ h) in
    rw (propagated c.from_residual-in_err-judge.ensures) (grow-refused g c.judge.ensures _ c.in_err-judge.was)

pub returns : goal.returns
returns c = let h = asked c.ask_found.ensures c.in_ok-v.was in
    let g = weighed-add h c.is_admitted-clear.ensures (c.size_with-n.ensures _ h) in
    let z = c.in_ok-judge.was in
    grow-granted g c.judge.ensures z c.survey_with-then.ensures (c.edit.ensures _ (weighed-edits g c.judge.ensures z)) c.granted.ensures.1
