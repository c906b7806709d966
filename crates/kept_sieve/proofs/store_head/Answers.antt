-- `store_head` meets its contract, by the family. Assumes nothing.
use native.Mathlib.Omega.{arith}
use Rattle.kept_reading.proofs.Found.{room-4, room-6}
use Rattle.kept_sieve.proofs.Marked.{stored-4, stored-6}
use Rattle.kept_sieve.proofs.store_head.Goals as goal

pub bounds-w-b : goal.bounds-w-b
bounds-w-b c = omega (arith, room-4 c.requires.0 c.if-family-eq-IPV4.true)

pub bounds-w-b-else-family-eq-IPV4 : goal.bounds-w-b-else-family-eq-IPV4
bounds-w-b-else-family-eq-IPV4 c = omega (arith, room-6 c.requires.0 c.if-family-eq-IPV4.false)

pub returns-then-family-eq-IPV4 : goal.returns-then-family-eq-IPV4
returns-then-family-eq-IPV4 c = stored-4 _ _ _ _ _ c.if-family-eq-IPV4.true

pub returns-else-family-eq-IPV4 : goal.returns-else-family-eq-IPV4
returns-else-family-eq-IPV4 c = stored-6 _ _ _ _ _ c.if-family-eq-IPV4.false
