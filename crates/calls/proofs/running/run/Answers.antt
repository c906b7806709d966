-- `running::run` meets its contract. The place past the call of a turn is within, by `turn-past`. Assumes nothing.
use Prim.Native.Nat.{◌-◌}
use mathlib.Core.Path.{sym}
use native.Mathlib.Omega.{arith}
use borrow.Author.Rules.{rules}
use Rattle.calls.proofs.Turns.{going_start, turn-past, turn-fits, turn_on, ran}
use Rattle.calls.proofs.running.run.Goals as goal

pub turns-init : goal.turns-init
turns-init c = let a = c.args in going_start a.pool.now a.rows.now a.calls.now a.out.now (omega arith) (omega arith)

pub slice_bounds-step-end : goal.slice_bounds-step-end
slice_bounds-step-end c = omega (arith, turn-past c.turns.invariant (sym c.in_default.ensures) c.call_at-c.result c.past-place.result c.call_at-c.ensures c.past-place.ensures)

pub step-requires : goal.step-requires
step-requires c = let l = c.turns in
    turn-fits l.invariant (sym c.in_default.ensures) c.call_at-c.result (c.past-place.result.at - l.place.at) c.call_at-c.ensures
    (omega (arith, turn-past l.invariant (sym c.in_default.ensures) c.call_at-c.result c.past-place.result c.call_at-c.ensures c.past-place.ensures))

pub turns-preserved : goal.turns-preserved
turns-preserved c = let l = c.turns in
    turn_on l.invariant (sym c.in_default.ensures) c.call_at-c.result (c.past-place.result.at - l.place.at) c.past-place.result c.call_at-c.ensures
    (omega (arith, turn-past l.invariant (sym c.in_default.ensures) c.call_at-c.result c.past-place.result c.call_at-c.ensures c.past-place.ensures))
    c.past-place.ensures c.step.ensures (search rules) (search rules) (search rules)

pub returns-in-Some-clause-ran : goal.returns-in-Some-clause-ran
returns-in-Some-clause-ran c = ran c.in-Some.why c.turns.invariant c.in-Some.ensures
