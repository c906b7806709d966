-- `cutting::cut` meets its contract. Assumes nothing.
use Rattle.kept_cut.proofs.Forks.{empty-spliced, sieve-asks, sieved-spliced}
use Rattle.kept_cut.proofs.cutting.cut.Goals as goal

pub mark-m-requires : goal.mark-m-requires
mark-m-requires c = c.requires

pub returns-then-i-e : goal.returns-then-i-e
returns-then-i-e c q p u ms t g = let k = c.mark-m.ensures q p u ms t g in
    (empty-spliced g _ k.0 c.if-i-e.true, k.1)

pub sieve-end-requires : goal.sieve-end-requires
sieve-end-requires c = let (q, p, u, ms, t, g) = c.requires in
    (p, t, _, sieve-asks g _ (c.mark-m.ensures q p u ms t g).0 c.if-i-e.false)

pub returns : goal.returns
returns c q p u ms t g = let k = c.mark-m.ensures q p u ms t g in
    (sieved-spliced g _ k.0 (c.sieve-end.ensures p t _ (sieve-asks g _ k.0 c.if-i-e.false)), k.1)
