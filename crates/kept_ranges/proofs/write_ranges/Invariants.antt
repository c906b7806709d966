-- `write_ranges` meets its contract. The loop's invariant: what is still to be read completes the ranges. Assumes nothing.
use Rattle.nets.specs.Tries.{Trie}
use Rattle.kept_list.specs.Listed.{KeptHolds}
use Rattle.kept_ranges.proofs.Turns.{Ranging}
use Rattle.kept_ranges.proofs.write_ranges.Given as goal

abbrev pub invariant-loop-k : goal.invariant-loop-k
invariant-loop-k l = (t : Trie) → KeptHolds l.family l.w l.b l.n l.i l.e t → Ranging l.family l.w l.b l.i l.e t l.initial.rows l.at l.rows l.k
