-- `write` meets its contract, by the family. Assumes nothing.
use Rattle.text_either.proofs.RoundTrip.{either_as-4, either_as-6}
use Rattle.text_either.proofs.write.Goals as goal

pub write-requires : goal.write-requires
write-requires c = rw (either_as-4 c.args.net c.if-net-eq-IPV4.true) at c.requires

pub returns-then-net-eq-IPV4 : goal.returns-then-net-eq-IPV4
returns-then-net-eq-IPV4 c = rw (either_as-4 c.args.net c.if-net-eq-IPV4.true) c.write.ensures

pub write-requires-2 : goal.write-requires-2
write-requires-2 c = rw (either_as-6 c.args.net c.if-net-eq-IPV4.false) at c.requires

pub returns : goal.returns
returns c = rw (either_as-6 c.args.net c.if-net-eq-IPV4.false) c.write-2.ensures
