-- `lining::line_up` meets its contract. The loop's invariant: the first i entries are lined up. Assumes nothing.
use mathlib.Core.Path.{◌≡◌, ap}
use Prim.Native.Nat.{◌+◌, ◌-◌}
use native.Mathlib.Omega.{arith}
use Rattle.nets.specs.declared.Net.{Net}
use Rattle.setfile_lanes.specs.Lanes.{Adds}
use Rattle.setfile_format.proofs.Written.{file_bytes-mono}
use Rattle.setfile_lanes.proofs.Lines.{lined-none}
use Rattle.setfile_lanes.proofs.lining.line_up.Goals as goal

pub loop-i-init : goal.loop-i-init
loop-i-init c = (lined-none, omega arith)

pub entry-x-requires : goal.entry-x-requires
entry-x-requires c = let e = c.requires.entries in
    (omega (arith, e.few), omega (arith, e.fits, file_bytes-mono c.args.family {i = c.loop-i.i + 1} {n = c.args.n} (omega arith)))

pub run_end-end-requires : goal.run_end-end-requires
run_end-end-requires c = (c.requires, (c.loop-i-test.true, ap (λ (z : Net). z.len) c.entry-x.ensures.value))

pub add_lane-requires : goal.add_lane-requires
add_lane-requires c = (_, _, _, record { file = c.requires; lined = c.loop-i.invariant.0; run = c.run_end-end.ensures; net = c.entry-x.ensures.value })

pub loop-i-smaller : goal.loop-i-smaller
loop-i-smaller c = omega (arith, c.run_end-end.ensures.from, c.run_end-end.ensures.to)

pub loop-i-preserved : goal.loop-i-preserved
loop-i-preserved c = let a : Adds _ _ _ _ _ _ _ = record { file = c.requires; lined = c.loop-i.invariant.0; run = c.run_end-end.ensures; net = c.entry-x.ensures.value } in
    (c.add_lane.ensures _ _ _ a, c.run_end-end.ensures.to)

pub returns : goal.returns
returns c = let o = c.loop-i in let e : o.i ≡ _ = omega arith in rw e at o.invariant.0
