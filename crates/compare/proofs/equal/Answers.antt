-- `equal` meets its contract, each return by the tests on the way to it. Assumes nothing.
use native.Mathlib.Omega.{arith}
use borrow.Author.Rules.{rules}
use Rattle.pool_state.specs.Decode.{record_at}
use Rattle.pool_state.proofs.Seats.{Seats, seated-refused, seated-at}
use Rattle.pool_state.proofs.Seen.{Figures, figures}
use Rattle.compare.proofs.Compared.{equal-refused, equal-noset, equal-empty, equal-none, equal-short, equal-asks, equal_words}
use Rattle.nets.proofs.Propagated.{propagated}
use Rattle.compare.proofs.equal.Goals as goal

pub bounds-pool-2 : goal.bounds-pool-2
bounds-pool-2 c = omega (arith, (figures (seated-at _ _ c.seat_of.ensures _ _ c.in_ok-found.was).surveyed).long)

pub returns-then-pool-second : goal.returns-then-pool-second
returns-then-pool-second c = equal-noset _ (seated-at _ _ c.seat_of.ensures _ _ c.in_ok-found.was).surveyed c.if-pool-second.true

pub bounds-pool-second : goal.bounds-pool-second
bounds-pool-second c = omega (arith, (figures (seated-at _ _ c.seat_of.ensures _ _ c.in_ok-found.was).surveyed).long, c.if-pool-second.false)

pub overflow_cast-root : goal.overflow_cast-root
overflow_cast-root c = omega (arith, c.type_inv.pool (record_at c.args.second))

pub returns-then-n-eq0 : goal.returns-then-n-eq0
returns-then-n-eq0 c = equal-empty (seated-at _ _ c.seat_of.ensures _ _ c.in_ok-found.was).surveyed c.if-pool-second.false c.if-n-eq0.true

pub returns-then-root-eq0 : goal.returns-then-root-eq0
returns-then-root-eq0 c = equal-none (seated-at _ _ c.seat_of.ensures _ _ c.in_ok-found.was).surveyed c.if-pool-second.false c.if-n-eq0.false c.if-root-eq0.true

pub overflow_add-root : goal.overflow_add-root
overflow_add-root c = omega (arith, (figures (seated-at _ _ c.seat_of.ensures _ _ c.in_ok-found.was).surveyed).held, (figures (seated-at _ _ c.seat_of.ensures _ _ c.in_ok-found.was).surveyed).claimed, (figures (seated-at _ _ c.seat_of.ensures _ _ c.in_ok-found.was).surveyed).nodes, c.type_inv.pool (record_at c.args.second))

pub returns-then-found-root : goal.returns-then-found-root
returns-then-found-root c = equal-short (seated-at _ _ c.seat_of.ensures _ _ c.in_ok-found.was).surveyed c.if-pool-second.false c.if-n-eq0.false c.if-root-eq0.false c.if-found-root.true

pub stride_of-s-requires : goal.stride_of-s-requires
stride_of-s-requires c = omega (arith, (figures (seated-at _ _ c.seat_of.ensures _ _ c.in_ok-found.was).surveyed).long)

pub same_nodes-requires : goal.same_nodes-requires
same_nodes-requires c = let h = (seated-at _ _ c.seat_of.ensures _ _ c.in_ok-found.was) in
    equal-asks h.surveyed c.if-pool-second.false c.if-n-eq0.false c.if-root-eq0.false c.if-found-root.false h.seat c.stride_of-s.ensures

pub returns-in_err-found : goal.returns-in_err-found
returns-in_err-found c = rw (propagated c.from_residual.ensures) (equal-refused _ _ _ (seated-refused _ _ c.seat_of.ensures _ c.in_err-found.was))

pub returns : goal.returns
returns c = let h = (seated-at _ _ c.seat_of.ensures _ _ c.in_ok-found.was) in
    equal_words h.surveyed c.if-pool-second.false c.if-n-eq0.false c.if-root-eq0.false c.if-found-root.false h.seat c.stride_of-s.ensures _ c.same_nodes.ensures
