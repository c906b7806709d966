-- `squeezing::squeeze` meets its contract. Assumes nothing.
use native.Mathlib.Omega.{arith}
use borrow.Author.Rules.{rules}
use Rattle.salvage_batch.proofs.Thinnings.{sorted-stands, squeezes}
use Rattle.salvage_batch.proofs.squeezing.squeeze.Goals as goal

pub thin-requires : goal.thin-requires
thin-requires c = sorted-stands c.requires (λ i. omega (arith, c.slice_known-1.given i)) (λ i. omega (arith, c.slice_known-2-1.given i)) c.sort.ensures

pub returns : goal.returns
returns c = squeezes c.requires (λ i. omega (arith, c.slice_known-1.given i)) (λ i. omega (arith, c.slice_known-2-1.given i)) c.sort.ensures c.thin.ensures
