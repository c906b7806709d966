-- `pieces::dotted_in` meets its contract. Assumes nothing.
use mathlib.Core.Path.{◌∙◌}
use lib.ListN.{drop}
use Rattle.text_ipv6_runs.specs.Runs.{read_dotted}
use Rattle.text_ipv6_runs.proofs.Found.{room-two, room-none}
use Rattle.text_ipv6_runs.proofs.pieces.dotted_in.Goals as goal

pub returns-then-count-gt6 : goal.returns-then-count-gt6
returns-then-count-gt6 c = let a = c.args in room-none a.count (read_dotted (drop a.start a.s.now)) c.if-count-gt6.true

pub returns : goal.returns
returns c = let a = c.args in
    c.dotted.ensures ∙ room-two a.count (read_dotted (drop a.start a.s.now)) c.if-count-gt6.false
