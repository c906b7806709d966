-- `entries::file_is_clear` meets its contract. The loop's invariant: the entries that are left settle the answer. Assumes nothing.
use Prim.Native.Nat.{◌-◌}
use native.Mathlib.Omega.{arith}
use Rattle.setfile_clear.proofs.Clearing.{file-header, going_start, going_end, going-there, going-out, going_on}
use Rattle.setfile_clear.proofs.entries.file_is_clear.Goals as goal

pub number-n-requires : goal.number-n-requires
number-n-requires c = let (l, e) = c.requires in (omega arith, omega (arith, file-header _ _ l e))

pub loop-i-init : goal.loop-i-init
loop-i-init c = let (l, e) = c.requires in going_start _ _ l _ e c.number-n.ensures

pub entry-net-requires : goal.entry-net-requires
entry-net-requires c = going-there c.loop-i.invariant c.loop-i-test.true

pub returns-then-not-is_public_net : goal.returns-then-not-is_public_net
returns-then-not-is_public_net c = going-out c.loop-i.invariant c.loop-i-test.true c.entry-net.ensures.value c.entry-net.ensures.result_bound c.is_public_net.ensures c.if-not-is_public_net.true-raw

pub loop-i-preserved : goal.loop-i-preserved
loop-i-preserved c = going_on c.loop-i.invariant c.loop-i-test.true c.entry-net.ensures.value c.entry-net.ensures.result_bound c.is_public_net.ensures c.if-not-is_public_net.false-raw

pub returns : goal.returns
returns c = going_end c.loop-i.invariant c.loop-i-test.false
