-- `kept_walk_from` meets its contract. The loop's invariant: the walk from here shows what the whole walk shows. Assumes nothing.
use Prim.Native.Nat.{◌+◌, ◌-◌}
use Rattle.kept_lookup.proofs.Turning.{Down}
use Rattle.kept_lookup.proofs.kept_walk_from.Given as goal

abbrev pub invariant-loop-i : goal.invariant-loop-i
invariant-loop-i l = Down l.family l.w l.b l.n l.root l.q l.i l.least l.count

abbrev pub decreases-loop-i : goal.decreases-loop-i
decreases-loop-i l = l.q.len + 1 - l.least
