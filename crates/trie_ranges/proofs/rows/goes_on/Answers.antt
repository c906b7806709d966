-- `rows::goes_on` meets its contract, by its tests. Assumes nothing.
use native.Mathlib.Omega.{arith}
use borrow.Author.Tests.{ne_eqb}
use Rattle.trie_ranges.proofs.Steps.{goes-high, goes-low, goes_some, goes-word}
use Rattle.trie_ranges.proofs.rows.goes_on.Goals as goal

pub returns-then-at-hi : goal.returns-then-at-hi
returns-then-at-hi c = let a = c.args in goes-high a.at a.hi a.lo (omega arith) (omega arith) c.if-at-hi.true

pub returns-then-at-lo : goal.returns-then-at-lo
returns-then-at-lo c = let a = c.args in goes-low a.at a.hi a.lo (omega arith) (omega arith) c.if-at-lo.true

pub returns-then-hi-ne0 : goal.returns-then-hi-ne0
returns-then-hi-ne0 c = let a = c.args in
    rw (ne_eqb a.hi 0 c.if-hi-ne0.true)
    (goes_some a.at a.hi a.lo (omega arith) (omega arith) c.if-at-hi.false c.if-at-lo.false c.if-hi-ne0.true)

pub returns-else-hi-ne0 : goal.returns-else-hi-ne0
returns-else-hi-ne0 c = let a = c.args in
    goes-word a.at a.hi a.lo (omega arith) (omega arith) c.if-at-hi.false c.if-at-lo.false c.if-hi-ne0.false
