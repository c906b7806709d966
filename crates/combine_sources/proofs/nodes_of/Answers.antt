-- `nodes_of` meets its contract. The loop's invariant: the sets behind the one that is asked for have had no node. Assumes nothing.
use Prim.Native.Nat.{◌-◌}
use native.Mathlib.Omega.{arith}
use mathlib.Core.Path.{◌≡◌}
use borrow.Author.Rules.{rules}
use Rattle.pool_state.specs.States.{State}
use Rattle.pool_state.specs.Decode.{record_at, sound, decode}
use Rattle.pool_state.proofs.Seen.{seen, Figures, figures}
use Rattle.combine_sources.proofs.Extents.{Turn, nodes-none, turn-first, turn-next, turn-found, turn_end}
use Rattle.combine_sources.proofs.nodes_of.Goals as goal

pub bounds-pool-set : goal.bounds-pool-set
bounds-pool-set c = let f = (figures c.requires.0.1) in omega (arith, c.requires.1)

pub overflow_cast-root-2 : goal.overflow_cast-root-2
overflow_cast-root-2 c = omega (arith, c.type_inv.pool (record_at c.args.set))

pub returns-then-root-eq0 : goal.returns-then-root-eq0
returns-then-root-eq0 c = let h = c.requires in let (S, g) = seen h.0.1 in nodes-none h.0.1 S g.decoded _ h.1 c.if-root-eq0.true

pub bounds-pool-2 : goal.bounds-pool-2
bounds-pool-2 c = let f = (figures c.requires.0.1) in omega arith

pub overflow_cast-sets : goal.overflow_cast-sets
overflow_cast-sets c = omega (arith, c.type_inv.pool 2)

pub loop-s-init : goal.loop-s-init
loop-s-init c S d = let h = c.requires in turn-first h.0.1 S d _ h.1

pub overflow_mul-next : goal.overflow_mul-next
overflow_mul-next c = let f = (figures c.requires.0.1) in omega (arith, c.loop-s-test.true)

pub overflow_add-next : goal.overflow_add-next
overflow_add-next c = let f = (figures c.requires.0.1) in omega (arith, c.loop-s-test.true)

pub offset_bounds-pool-s : goal.offset_bounds-pool-s
offset_bounds-pool-s c = let f = (figures c.requires.0.1) in omega (arith, c.loop-s-test.true)

pub bounds-pool-s : goal.bounds-pool-s
bounds-pool-s c = let f = (figures c.requires.0.1) in omega (arith, c.loop-s-test.true)

pub overflow_cast-next : goal.overflow_cast-next
overflow_cast-next c = omega (arith, c.type_inv.pool (record_at c.loop-s.s))

pub overflow_sub-result : goal.overflow_sub-result
overflow_sub-result c = let h = c.requires in
    let (S, g) = seen h.0.1 in
    (turn-found h.0.1 S g.decoded _ h.1 c.if-root-eq0.false (c.loop-s.invariant S g.decoded) c.loop-s-test.true c.if-next-ne0.true).0

pub returns-then-next-ne0 : goal.returns-then-next-ne0
returns-then-next-ne0 c = let h = c.requires in
    let (S, g) = seen h.0.1 in
    (turn-found h.0.1 S g.decoded _ h.1 c.if-root-eq0.false (c.loop-s.invariant S g.decoded) c.loop-s-test.true c.if-next-ne0.true).1

pub loop-s-preserved : goal.loop-s-preserved
loop-s-preserved c S d = let h = c.requires in
    turn-next h.0.1 S d _ h.1 c.if-root-eq0.false (c.loop-s.invariant S d) c.loop-s-test.true c.if-next-ne0.false

pub overflow_cast-result : goal.overflow_cast-result
overflow_cast-result c = let f = (figures c.requires.0.1) in omega arith

pub overflow_add-result : goal.overflow_add-result
overflow_add-result c = let f = (figures c.requires.0.1) in omega arith

pub overflow_sub-result-2 : goal.overflow_sub-result-2
overflow_sub-result-2 c = let h = c.requires in
    let (S, g) = seen h.0.1 in
    (turn_end h.0.1 S g.decoded _ h.1 c.if-root-eq0.false (c.loop-s.invariant S g.decoded) c.loop-s-test.false).0

pub returns : goal.returns
returns c = let h = c.requires in
    let (S, g) = seen h.0.1 in
    (turn_end h.0.1 S g.decoded _ h.1 c.if-root-eq0.false (c.loop-s.invariant S g.decoded) c.loop-s-test.false).1
