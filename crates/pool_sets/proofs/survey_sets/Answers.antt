-- `checking::survey_sets` meets its contract. The loop's invariant: what is left to scan completes the answer. Assumes nothing.
use mathlib.Core.Path.{◌∙◌}
use Prim.Native.Nat.{◌-◌}
use native.Mathlib.Omega.{arith}
use borrow.Author.Rules.{rules}
use Rattle.pool_state.proofs.Header.{is_header-header}
use Rattle.pool_sets.proofs.Pass.{Pass, pass-start, pass-done, pass-bad, pass-found, pass_up, pass-off, pass-over, pass_on}
use Rattle.pool_sets.proofs.survey_sets.Goals as goal

pub bounds-w-2 : goal.bounds-w-2
bounds-w-2 c = omega (arith, is_header-header _ c.requires)

pub overflow_cast-sets : goal.overflow_cast-sets
overflow_cast-sets c = omega (arith, is_header-header _ c.requires)

pub bounds-w-3 : goal.bounds-w-3
bounds-w-3 c = omega (arith, is_header-header _ c.requires)

pub overflow_mul-b : goal.overflow_mul-b
overflow_mul-b c = omega (arith, is_header-header _ c.requires)

pub overflow_add-b : goal.overflow_add-b
overflow_add-b c = omega (arith, is_header-header _ c.requires)

pub loop-s-init : goal.loop-s-init
loop-s-init c = pass-start _ _ c.requires

pub returns-then-end-eq0 : goal.returns-then-end-eq0
returns-then-end-eq0 c = pass-bad c.loop-s.invariant c.loop-s-test.true c.set_end-end.ensures c.if-end-eq0.true

pub is_right-requires : goal.is_right-requires
is_right-requires c = let p = c.loop-s.invariant in
    pass-found p c.loop-s-test.true c.set_end-end.ensures c.if-end-eq0.false

pub returns-then-not-is_right : goal.returns-then-not-is_right
returns-then-not-is_right c = pass-off c.loop-s.invariant c.loop-s-test.true c.set_end-end.ensures c.if-end-eq0.false c.is_right.ensures c.if-not-is_right.true-raw

pub overflow_sub-nodes : goal.overflow_sub-nodes
overflow_sub-nodes c = pass_up c.loop-s.invariant c.loop-s-test.true c.set_end-end.ensures c.if-end-eq0.false

pub returns-then-n-claimed : goal.returns-then-n-claimed
returns-then-n-claimed c = pass-over c.loop-s.invariant c.loop-s-test.true c.set_end-end.ensures c.if-end-eq0.false c.is_right.ensures c.if-not-is_right.false-raw c.claim_at-claim.ensures
    c.if-n-claimed.true

pub loop-s-preserved : goal.loop-s-preserved
loop-s-preserved c = rw (c.picked-at.ensures, c.picked-held.ensures)
    (pass_on c.loop-s.invariant c.loop-s-test.true c.set_end-end.ensures c.if-end-eq0.false c.is_right.ensures c.if-not-is_right.false-raw c.claim_at-claim.ensures
    c.if-n-claimed.false)

pub returns : goal.returns
returns c = pass-done c.loop-s.invariant c.loop-s-test.false
