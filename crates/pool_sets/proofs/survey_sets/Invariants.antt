-- `checking::survey_sets` meets its contract. The loop's invariant: what is left to scan completes the answer. Assumes nothing.
use mathlib.Core.Path.{◌∙◌}
use Prim.Native.Nat.{◌-◌}
use native.Mathlib.Omega.{arith}
use borrow.Author.Rules.{rules}
use Rattle.pool_state.proofs.Header.{is_header-header}
use Rattle.pool_sets.proofs.Pass.{Pass, pass-start, pass-done, pass-bad, pass-found, pass_up, pass-off, pass-over, pass_on}
use Rattle.pool_sets.proofs.survey_sets.Given as goal

abbrev pub invariant-loop-s : goal.invariant-loop-s
invariant-loop-s l = Pass l.w l.set l.sets l.n l.b l.s l.i l.claimed l.at l.held
