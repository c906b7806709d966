-- `sides::still_short` meets its contract, test by test. Assumes nothing.
use Rattle.std.proofs.Common.{rules}
use Rattle.setfile_sides.proofs.Standing.{short-last, short-apart, short-uneven, short-halves}
use Rattle.setfile_sides.proofs.sides.still_short.Goals as goal

pub returns-then-deep-eq0 : goal.returns-then-deep-eq0
returns-then-deep-eq0 c f p ms e g = short-last f p ms _ _ _ e g c.if-deep-eq0.true

pub returns-then-deep-net : goal.returns-then-deep-net
returns-then-deep-net c f p ms e g = short-apart f p ms _ _ _ e g c.if-deep-eq0.false c.if-deep-net.true

pub returns-then-net-before : goal.returns-then-net-before
returns-then-net-before c f p ms e g = short-uneven f p ms _ _ _ e g c.if-deep-eq0.false c.if-net-before.true

pub returns : goal.returns
returns c f p ms e g = short-halves f p ms c.args.short _ _ e g
    c.if-deep-eq0.false c.if-deep-net.false c.if-net-before.false
