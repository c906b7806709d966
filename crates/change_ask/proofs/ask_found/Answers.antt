-- `ask_found` meets its contract, each return by the tests on the way to it. Assumes nothing.
use native.Mathlib.Omega.{arith}
use borrow.Author.Rules.{rules}
use Rattle.pool_state.proofs.Seen.{figures}
use Rattle.change_ask.proofs.Asking.{ask-family, ask-network, ask-go}
use Rattle.nets.proofs.Propagated.{propagated}
use Rattle.change_ask.proofs.ask_found.Goals as goal

pub bounds-pool-1 : goal.bounds-pool-1
bounds-pool-1 c = omega (arith, figures c.requires)

pub returns-then-net-pool : goal.returns-then-net-pool
returns-then-net-pool c = ask-family _ c.requires c.if-net-pool.true

pub returns : goal.returns
returns c = ask-go _ c.requires c.if-net-pool.false _ c.prefix_bits.ensures _ c.in_ok-s.was

pub returns-in_err-s : goal.returns-in_err-s
returns-in_err-s c = rw (propagated c.from_residual.ensures) (ask-network _ c.requires c.if-net-pool.false _ c.prefix_bits.ensures _ c.in_err-s.was)
