-- `rules::in_range` meets its contract, by the range of each family in words. Assumes nothing.
use mathlib.Core.Path.{sym}
use native.Mathlib.Omega.{arith}
use borrow.Author.Tests.{le-leb, lt-leb, eq-eqb, ne_eqb}
use Rattle.nets.proofs.TwoWords.{in_range-4, in_range-6}
use Rattle.nets.proofs.rules.in_range.Goals as goal

pub returns-then-n-eq0 : goal.returns-then-n-eq0
returns-then-n-eq0 c = let n = c.args.n in
    rw (in_range-4 n (omega arith), le-leb n.len 32 (omega arith), eq-eqb n.hi 0 (omega arith))

pub returns-else-n-eq0 : goal.returns-else-n-eq0
returns-else-n-eq0 c = let n = c.args.n in
    rw (in_range-4 n (omega arith), le-leb n.len 32 (omega arith), ne_eqb n.hi 0 c.if-n-eq0.false)

pub returns-else-n-le32 : goal.returns-else-n-le32
returns-else-n-le32 c = let n = c.args.n in
    rw (in_range-4 n (omega arith), lt-leb n.len 32 (omega arith))

pub returns : goal.returns
returns c = sym (in_range-6 c.args.n c.if-n-eq-IPV4.false (omega arith) (omega arith))
