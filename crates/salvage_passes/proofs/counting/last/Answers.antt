-- `counting::last` meets its contract. Assumes nothing.
use native.Mathlib.Omega.{arith}
use Rattle.salvage_passes.proofs.Batches.{last_none, last_fits, last_some}
use Rattle.salvage_passes.proofs.counting.last.Goals as goal

pub returns-then-n-eq0 : goal.returns-then-n-eq0
returns-then-n-eq0 c = last_none c.requires c.if-n-eq0.true

pub entry-requires : goal.entry-requires
entry-requires c = last_fits c.requires c.if-n-eq0.false

pub returns : goal.returns
returns c = last_some c.requires (λ i. omega (arith, c.type_inv.buf i)) c.if-n-eq0.false _ c.entry.ensures.value
