-- `turns::told` meets its contract, each return by the tests on the way to it. Assumes nothing.
use Rattle.walk_turns.proofs.Returns.{told-damaged, told-noset, told-network, told-end}
use Rattle.walk_turns.proofs.turns.told.Goals as goal

pub returns-then-no-eq2 : goal.returns-then-no-eq2
returns-then-no-eq2 c i = let a = c.args in told-damaged a.there a.net a.no c.if-no-eq2.true

pub returns-then-no-eq3 : goal.returns-then-no-eq3
returns-then-no-eq3 c i = let a = c.args in told-noset a.there a.net a.no c.if-no-eq3.true

pub returns-then-there : goal.returns-then-there
returns-then-there c i = let a = c.args in told-network a.there a.net a.no c.if-no-eq2.false c.if-no-eq3.false i c.if-there.true

pub returns : goal.returns
returns c i = let a = c.args in told-end a.there a.net a.no c.if-no-eq2.false c.if-no-eq3.false i c.if-there.false
