-- `words::start` meets its contract, by the words of each family. Assumes nothing.
use native.Mathlib.Omega.{arith}
use Rattle.nets.proofs.TwoWords.{start_of-4, start_of-6}
use Rattle.nets.proofs.words.start.Goals as goal

pub returns-then-n-eq-IPV4 : goal.returns-then-n-eq-IPV4
returns-then-n-eq-IPV4 c = start_of-4 c.args.n (omega arith)

pub returns : goal.returns
returns c = start_of-6 c.args.n c.if-n-eq-IPV4.false (omega arith) (omega arith)
