-- `addresses::after` meets its contract, by the words of each family. Assumes nothing.
use Rattle.std.proofs.Common.{refl, arith}
use Rattle.ranges.proofs.Words.{after-4, after-6}
use Rattle.ranges.proofs.addresses.after.Goals as goal

pub returns-then-family-eq-IPV4 : goal.returns-then-family-eq-IPV4
returns-then-family-eq-IPV4 c = let a = c.args in after-4 a.family a.a.hi a.a.lo _ c.if-family-eq-IPV4.true refl

pub returns : goal.returns
returns c = let a = c.args in
    after-6 a.family a.a.hi a.a.lo _ c.carry.result _ c.if-family-eq-IPV4.false (omega arith) (omega arith) refl c.carry.ensures refl
