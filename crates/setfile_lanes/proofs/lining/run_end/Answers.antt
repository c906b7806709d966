-- `lining::run_end` meets its contract. The loop's invariant: entry low has the length, and entry high, where there is one, has another. Assumes nothing.
use mathlib.Core.Path.{refl, ap}
use Prim.Native.Nat.{◌+◌, ◌-◌, ◌/◌}
use native.Mathlib.Omega.{arith}
use Rattle.nets.specs.declared.Net.{Net}
use Rattle.setfile_format.proofs.Written.{file_bytes-mono}
use Rattle.setfile_lanes.proofs.Halving.{halved, alike_end}
use Rattle.setfile_lanes.proofs.lining.run_end.Goals as goal

pub loop-low-init : goal.loop-low-init
loop-low-init c = record { from = omega arith; some = c.requires.1.0; to = omega arith; same = refl; other = λ h. absurd (omega arith) }

pub overflow_add-low : goal.overflow_add-low
overflow_add-low c = let p = c.requires.0.entries.few in omega (arith, p, c.loop-low.invariant.some, c.loop-low.invariant.to)

pub overflow_add-mid : goal.overflow_add-mid
overflow_add-mid c = let p = c.requires.0.entries.few in omega (arith, p, c.loop-low.invariant.some, c.loop-low.invariant.to)

pub entry-requires : goal.entry-requires
entry-requires c = let o = c.loop-low in
    let e = c.requires.0.entries in (
      omega (arith, e.few, o.invariant.some, o.invariant.to),
      omega (arith, e.fits, file_bytes-mono c.args.family {i = (o.low + o.high) / 2 + 1} {n = c.args.n} (omega (arith, o.invariant.some, o.invariant.to))),
    )

pub loop-low-smaller : goal.loop-low-smaller
loop-low-smaller c = (halved c.loop-low.invariant c.loop-low-test.true (ap (λ (z : Net). z.len) c.entry.ensures.value) c.requires.1.1 c.either-low.ensures c.either-high.ensures).1

pub loop-low-preserved : goal.loop-low-preserved
loop-low-preserved c = (halved c.loop-low.invariant c.loop-low-test.true (ap (λ (z : Net). z.len) c.entry.ensures.value) c.requires.1.1 c.either-low.ensures c.either-high.ensures).0

pub overflow_add-result : goal.overflow_add-result
overflow_add-result c = let p = c.requires.0.entries.few in omega (arith, p, c.loop-low.invariant.some, c.loop-low.invariant.to)

pub returns : goal.returns
returns c = alike_end c.requires.0 c.loop-low.invariant c.loop-low-test.false
