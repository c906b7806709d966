-- `runs::longest` meets its contract. The loop's invariant: the zeros and the longest run of the groups from k on are known. Assumes nothing.
use mathlib.Core.Path.{◌≡◌}
use Prim.Native.Nat.{◌-◌}
use native.Mathlib.Omega.{arith}
use lib.ListN.{length}
use Rattle.text_ipv6_write.specs.Runs.{run_of}
use Rattle.text_ipv6_write.proofs.Longest.{seen_start, seen_step, seen_all}
use Rattle.text_ipv6_write.proofs.runs.longest.Goals as goal

eight : (c : goal.Start) → length c.args.g ≡ 8
eight c = c.well_formed.0.1.0.1

eight-chosen-best : (c : goal.After-chosen-best) → length c.args.g ≡ 8
eight-chosen-best c = c.well_formed.0.1.0.1

pub loop-k-init : goal.loop-k-init
loop-k-init c = seen_start c.args.g (eight c)

pub offset_bounds-g-k : goal.offset_bounds-g-k
offset_bounds-g-k c = omega (arith, c.loop-k.invariant.room)

pub bounds-g-k : goal.bounds-g-k
bounds-g-k c = omega (arith, c.loop-k.invariant.room)

pub counted-here-requires : goal.counted-here-requires
counted-here-requires c = omega (arith, c.loop-k.invariant.room)

pub loop-k-preserved : goal.loop-k-preserved
loop-k-preserved c = seen_step c.args.g (eight-chosen-best c) c.loop-k.k (c.loop-k.k - 1) c.loop-k.here c.counted-here.result (run_of c.loop-k.best)
    (run_of c.chosen-best.result)
    (omega arith) c.loop-k.invariant c.counted-here.ensures c.chosen-best.ensures

pub returns : goal.returns
returns c = seen_all c.args.g c.loop-k.k c.loop-k.here (run_of c.loop-k.best) c.loop-k-test.false c.loop-k.invariant
