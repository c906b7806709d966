-- `compare` meets its contract, test by test: the two lists are those that `check` answers. Assumes nothing.
use Rattle.setfile_order.proofs.Answers.{checked-broken, checked-file}
use Rattle.setfile_compare.proofs.Answers.{refuse-first, refuse-second, refuse-family, same-family, answer}
use Rattle.setfile_compare.proofs.compare.Goals as goal

pub returns-in_default : goal.returns-in_default
returns-in_default c = refuse-first _ _ (checked-broken _ c.check-x.ensures c.in_default.is)

pub returns-in_default-y : goal.returns-in_default-y
returns-in_default-y c = refuse-second _ _ (checked-broken _ c.check-y.ensures c.in_default-y.is)

pub returns-then-family-other : goal.returns-then-family-other
returns-then-family-other c = let (l, i, _) = checked-file _ c.check-x.ensures c.in-Some.is in
    let (m, j, _) = checked-file _ c.check-y.ensures c.in-Some-y.is in
    refuse-family _ _ _ _ l m i j c.if-family-other.true

pub side_by_side-requires : goal.side_by_side-requires
side_by_side-requires c = let (l, i, _) = checked-file _ c.check-x.ensures c.in-Some.is in
    let (m, j, _) = checked-file _ c.check-y.ensures c.in-Some-y.is in
    (l, m, i, same-family c.if-family-other.false j)

pub returns : goal.returns
returns c = let (l, i, _) = checked-file _ c.check-x.ensures c.in-Some.is in
    let (m, j, _) = checked-file _ c.check-y.ensures c.in-Some-y.is in
    let k = same-family c.if-family-other.false j in
    answer _ _ _ l m _ i k (c.side_by_side.ensures l m i k)
