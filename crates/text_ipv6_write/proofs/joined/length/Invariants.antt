-- `joined::length` meets its contract. The loop's invariant: n bytes up to the group i, and what is left makes all. Assumes nothing.
use Rattle.text_ipv6_write.proofs.Colons.{Counted}
use Rattle.text_ipv6_write.proofs.joined.length.Given as goal

abbrev pub invariant-loop-i : goal.invariant-loop-i
invariant-loop-i l = Counted l.g l.from l.to l.n l.i
