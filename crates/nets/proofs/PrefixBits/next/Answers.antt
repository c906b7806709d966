-- `PrefixBits::next` meets its contract, by the words one place to the left. Assumes nothing.
use native.Mathlib.Omega.{arith}
use Rattle.nets.specs.Networks.{next_of}
use Rattle.nets.proofs.TwoWords.{next_of-bit}
use Rattle.nets.proofs.PrefixBits.next.Goals as goal

pub returns-then-self-eq0 : goal.returns-then-self-eq0
unfolding next_of
returns-then-self-eq0 c = rw c.if-self-eq0.true

pub returns : goal.returns
unfolding next_of
returns c = next_of-bit c.args.self c.if-self-eq0.false (omega arith) (omega arith)
