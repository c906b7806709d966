-- `length` meets its contract, by the family. Assumes nothing.
use Rattle.text_either.proofs.RoundTrip.{either_as-4, either_as-6}
use Rattle.text_either.proofs.length.Goals as goal

pub returns-then-net-eq-IPV4 : goal.returns-then-net-eq-IPV4
returns-then-net-eq-IPV4 c = rw (either_as-4 c.args.net c.if-net-eq-IPV4.true) c.length.ensures

pub returns : goal.returns
returns c = rw (either_as-6 c.args.net c.if-net-eq-IPV4.false) c.length-2.ensures
