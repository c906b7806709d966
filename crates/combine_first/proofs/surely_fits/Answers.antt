-- `surely_fits` meets its contract, by its tests. Assumes nothing.
use mathlib.Core.Bool.{false≢true}
use Prim.Native.Nat.{◌+◌}
use native.Mathlib.Omega.{arith}
use borrow.Author.Rules.{rules}
use borrow.Author.Tests.{not-false, leb-true}
use Rattle.pool_state.specs.Decode.{record_at}
use Rattle.pool_state.proofs.Seen.{figures}
use Rattle.combine_first.proofs.surely_fits.Goals as goal

pub returns-then-not-clear : goal.returns-then-not-clear
returns-then-not-clear c e = absurd (false≢true e)

pub overflow_add-v : goal.overflow_add-v
overflow_add-v c = omega (arith, figures c.requires.surveyed)

pub returns-then-v : goal.returns-then-v
returns-then-v c e = absurd (false≢true e)

pub returns-then-is_copy : goal.returns-then-is_copy
returns-then-is_copy c e = absurd (false≢true e)

pub bounds-pool-to : goal.bounds-pool-to
bounds-pool-to c = omega (arith, figures c.requires.surveyed)

pub overflow_cast-pool : goal.overflow_cast-pool
overflow_cast-pool c = omega (arith, c.type_inv.pool (record_at c.args.to + 2))

pub returns-then-pool-to : goal.returns-then-pool-to
returns-then-pool-to c e = absurd (false≢true e)

pub returns : goal.returns
returns c e = (
  not-false _ c.if-not-clear.false-raw,
  record {
    last = c.if-v.false;
    limit = omega (arith, c.most_nodes-n.ensures, c.if-pool-to.false);
    room = λ S d. omega (arith, c.most_nodes-n.ensures, c.room.ensures S d, leb-true c.most_nodes-n.result c.room.result e);
  },
)
