-- `runs::longest` meets its contract. The loop's invariant: the zeros and the longest run of the groups from k on are known. Assumes nothing.
use Rattle.text_ipv6_write.specs.Runs.{run_of}
use Rattle.text_ipv6_write.proofs.Longest.{Seen}
use Rattle.text_ipv6_write.proofs.runs.longest.Given as goal

abbrev pub invariant-loop-k : goal.invariant-loop-k
invariant-loop-k l = Seen l.g l.k l.here (run_of l.best)
