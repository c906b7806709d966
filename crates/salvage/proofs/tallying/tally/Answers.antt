-- `tallying::tally` meets its contract. The loop's invariant: the counts are those of the entries read. Assumes nothing.
use mathlib.Core.Path.{◌≡◌, refl}
use Prim.Native.Nat.{◌+◌}
use native.Mathlib.Nat.{le_trans}
use native.Mathlib.Omega.{arith}
use Rattle.setfile_format.proofs.Written.{file_bytes-mono}
use Rattle.salvage_lists.specs.Salvaging.{long_in, trimmed_in}
use Rattle.salvage.proofs.Tallies.{trimmed-next, long-next, trimmed-few, long-few}
use Rattle.salvage.proofs.tallying.tally.Goals as goal

pub loop-i-init : goal.loop-i-init
unfolding trimmed_in long_in
loop-i-init c = (refl, refl)

pub entry-requires : goal.entry-requires
unfolding trimmed_in long_in
entry-requires c = (omega (arith, c.requires.0, c.loop-i-test.true), le_trans (file_bytes-mono c.args.family (omega (arith, c.loop-i-test.true))) c.requires.1)

pub overflow_add-trimmed : goal.overflow_add-trimmed
unfolding trimmed_in long_in
overflow_add-trimmed c = omega (arith, trimmed-next _ _ _ c.entry.ensures.value c.loop-i.invariant.0 c.stray-s.ensures.0, trimmed-few c.args.family c.args.bytes.now 0 (c.loop-i.i + 1), c.loop-i-test.true, c.requires.0)

pub overflow_add-long : goal.overflow_add-long
unfolding trimmed_in long_in
overflow_add-long c = omega (arith, long-next _ _ _ c.entry.ensures.value c.loop-i.invariant.1 c.stray-s.ensures.1, long-few c.args.family c.args.bytes.now 0 (c.loop-i.i + 1), c.loop-i-test.true, c.requires.0)

pub loop-i-preserved : goal.loop-i-preserved
unfolding trimmed_in long_in
loop-i-preserved c = (trimmed-next _ _ _ c.entry.ensures.value c.loop-i.invariant.0 c.stray-s.ensures.0, long-next _ _ _ c.entry.ensures.value c.loop-i.invariant.1 c.stray-s.ensures.1)

pub returns : goal.returns
unfolding trimmed_in long_in
returns c = let e : c.loop-i.i ≡ c.args.n = omega (arith, c.loop-i.auto.i-end, c.loop-i-test.false) in
    (rw e at c.loop-i.invariant.0, rw e at c.loop-i.invariant.1)
