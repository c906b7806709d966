-- `first::end` meets its contract. The loop's invariant: what was passed, with what is left, is the first line. Assumes nothing.
use Rattle.text_either.proofs.Firsts.{Passed}
use Rattle.text_either.proofs.first.end.Given as goal

abbrev pub invariant-loop-at : goal.invariant-loop-at
invariant-loop-at l = Passed l.input l.at
