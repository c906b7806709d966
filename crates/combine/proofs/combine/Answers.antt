-- `combine` meets its contract: a refusal of `ask` is its own, and what has started goes on by the form. Assumes nothing.
use native.Mathlib.Omega.{arith}
use borrow.Author.Rules.{rules}
use Rattle.pool_state.proofs.Seen.{figures}
use Rattle.combine_sources.proofs.Asked.{asked, starts}
use Rattle.nets.proofs.Propagated.{propagated}
use Rattle.combine.proofs.combine.Goals as goal

pub sources_of-s-requires : goal.sources_of-s-requires
sources_of-s-requires c = (_, asked c.ask.ensures c.in_ok-v.was)

pub bounds-pool-5 : goal.bounds-pool-5
bounds-pool-5 c = omega (arith, (figures (asked c.ask.ensures c.in_ok-v.was).surveyed).long)

pub by_nodes-requires : goal.by_nodes-requires
by_nodes-requires c = ((_, _, starts c.requires c.ask.ensures c.in_ok-v.was c.sources_of-s.ensures), c.if-pool-eq0.true)

pub returns-then-pool-eq0 : goal.returns-then-pool-eq0
returns-then-pool-eq0 c = c.by_nodes.ensures _ _ (starts c.requires c.ask.ensures c.in_ok-v.was c.sources_of-s.ensures)

pub combine-requires : goal.combine-requires
combine-requires c = ((_, _, starts c.requires c.ask.ensures c.in_ok-v.was c.sources_of-s.ensures), c.if-pool-eq0.false)

pub returns-in_err-v : goal.returns-in_err-v
returns-in_err-v c = rw (propagated c.from_residual.ensures) ((rw c.in_err-v.was at c.ask.ensures) _)

pub returns : goal.returns
returns c = c.combine.ensures _ _ (starts c.requires c.ask.ensures c.in_ok-v.was c.sources_of-s.ensures)
