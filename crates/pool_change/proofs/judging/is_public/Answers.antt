-- `judging::is_public` meets its contract, by the word of the set's mark. Assumes nothing.
use native.Mathlib.Omega.{arith}
use borrow.Author.Rules.{rules}
use Rattle.pool_state.proofs.Seen.{figures, seen_as}
use Rattle.pool_state.proofs.Judged.{public-is}
use Rattle.pool_change.proofs.judging.is_public.Goals as goal

pub bounds-w-set : goal.bounds-w-set
bounds-w-set c = omega (arith, figures c.requires)

pub returns : goal.returns
returns c S d = public-is (seen_as c.requires S d)
