-- `strings::child` meets its contract, by its test. Assumes nothing.
use Rattle.kept_reading.proofs.ByWords.{path-short}
use Rattle.kept_reading.proofs.strings.child.Goals as goal

pub second-requires : goal.second-requires
second-requires c = let (f, q, is, lt) = c.requires in
    record { len_bound = path-short f q is lt; by_index = (f, q, is) }

pub returns-then-bit : goal.returns-then-bit
returns-then-bit c f q is = rw c.if-bit.true (c.second.ensures f q is)

pub first-requires : goal.first-requires
first-requires c = let (f, q, is, lt) = c.requires in path-short f q is lt

pub returns : goal.returns
returns c f q is = rw c.if-bit.false (c.first.ensures f q is)
