-- `joined::put` meets its contract. The loop's invariant: a text behind the first group, up to the group i, and what is left. Assumes nothing.
use Rattle.text_ipv6_write.proofs.Colons.{Put}
use Rattle.text_ipv6_write.proofs.joined.put.Given as goal

abbrev pub invariant-loop-i : goal.invariant-loop-i
invariant-loop-i l = Put l.initial.out l.initial.next l.g l.initial.i l.to l.i l.out l.next
