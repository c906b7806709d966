-- `reading::head` meets its contract. Assumes nothing.
use native.Mathlib.Omega.{arith}
use Rattle.kept_reading.proofs.Found.{room-4, room-6, head-4, head-6}
use Rattle.kept_reading.proofs.reading.head.Goals as goal

pub bounds-w-b : goal.bounds-w-b
bounds-w-b c = omega (arith, room-4 c.requires.kept_room c.if-family-eq-IPV4.true)

pub returns-then-family-eq-IPV4 : goal.returns-then-family-eq-IPV4
returns-then-family-eq-IPV4 c = head-4 c.requires.kept_room _ c.if-family-eq-IPV4.true

pub bounds-w-b-2 : goal.bounds-w-b-2
bounds-w-b-2 c = omega (arith, room-6 c.requires.kept_room c.if-family-eq-IPV4.false)

pub returns : goal.returns
returns c = head-6 c.requires.kept_room _ c.if-family-eq-IPV4.false
