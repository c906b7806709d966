-- `reading::net_at` meets its contract. Assumes nothing.
use native.Mathlib.Omega.{arith}
use Rattle.kept_reading.proofs.Found.{room-4, room-6, read_short, read-long}
use Rattle.kept_reading.proofs.reading.net_at.Goals as goal

pub short_net-requires : goal.short_net-requires
short_net-requires c = (omega (arith, room-4 c.requires.kept_room c.if-family-eq-IPV4.true), c.if-family-eq-IPV4.true)

pub returns-then-family-eq-IPV4 : goal.returns-then-family-eq-IPV4
returns-then-family-eq-IPV4 c = read_short c.if-family-eq-IPV4.true c.short_net.ensures

pub long_net-requires : goal.long_net-requires
long_net-requires c = (omega (arith, room-6 c.requires.kept_room c.if-family-eq-IPV4.false), c.if-family-eq-IPV4.false)

pub returns : goal.returns
returns c = read-long c.if-family-eq-IPV4.false c.long_net.ensures
