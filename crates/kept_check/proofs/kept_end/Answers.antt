-- `kept_end` meets its contract. The loop's invariant: what the stack makes of the end of the part now read is the answer. Assumes nothing.
use native.Mathlib.Omega.{arith}
use mathlib.Core.Path.{refl, sym, ◌∙◌}
use Prim.Native.Nat.{◌≤◌, ◌<◌}
use Rattle.kept_nodes.proofs.Parsed.{fits-are}
use lib.ListN.{get_or, set}
use borrow.Author.Tests.{not-true, not-false}
use Rattle.kept_check.proofs.Stack.{Known, Turn, reads, gone, room_for, stop, turn-place, turn-node, off, on, begin}
use Rattle.kept_check.proofs.kept_end.Goals as goal

within : (c : goal.Else-not-node_fits) → c.loop-ats.i ≤ c.args.n
within c = (fits-are _ _ _ _ _ _ (sym c.node_fits.ensures ∙ not-false _ c.if-not-node_fits.false-raw)).within

known : (c : goal.After-distance-d) →
    let o = c.loop-ats in
    let a = c.args in
    Known a.family a.w.now a.b a.n o.up o.bit o.i c.distance-d.result
known c = record { fit = sym c.node_fits.ensures ∙ not-false _ c.if-not-node_fits.false-raw; dist = c.distance-d.ensures.0 }

fit : (c : goal.After-distance-d) → c.loop-ats.sp < 130
fit c = room_for c.requires.0 c.loop-ats.invariant (known c)

within-distance-d : (c : goal.After-distance-d) → c.loop-ats.i ≤ c.args.n
within-distance-d c = (fits-are _ _ _ _ _ _ (sym c.node_fits.ensures ∙ not-false _ c.if-not-node_fits.false-raw)).within

known-then-sp-eq0 : (c : goal.Then-sp-eq0) →
    let o = c.loop-ats in
    let a = c.args in
    Known a.family a.w.now a.b a.n o.up o.bit o.i c.distance-d.result
known-then-sp-eq0 c = record { fit = sym c.node_fits.ensures ∙ not-false _ c.if-not-node_fits.false-raw; dist = c.distance-d.ensures.0 }

known-parent-p : (c : goal.After-parent-p) →
    let o = c.loop-ats in
    let a = c.args in
    Known a.family a.w.now a.b a.n o.up o.bit o.i c.distance-d.result
known-parent-p c = record { fit = sym c.node_fits.ensures ∙ not-false _ c.if-not-node_fits.false-raw; dist = c.distance-d.ensures.0 }

turn : (c : goal.After-parent-p) →
    let o = c.loop-ats in
    Turn c.distance-d.result o.ats o.sp o.i c.stepped-sp.result c.parent-p.result (get_or (set o.ats o.sp o.i)
    c.parent-p.result 0)
turn c = record { step = c.stepped-sp.ensures; place = c.parent-p.ensures; node = refl }

where_next : (c : goal.After-parent-p) → c.parent-p.result < 131
where_next c = turn-place c.requires.0 c.loop-ats.invariant (known-parent-p c) (turn c) c.if-sp-eq0.false

known-then-not-follows : (c : goal.Then-not-follows) →
    let o = c.loop-ats in
    let a = c.args in
    Known a.family a.w.now a.b a.n o.up o.bit o.i c.distance-d.result
known-then-not-follows c = record { fit = sym c.node_fits.ensures ∙ not-false _ c.if-not-node_fits.false-raw; dist = c.distance-d.ensures.0 }

turn-then-not-follows : (c : goal.Then-not-follows) →
    let o = c.loop-ats in
    Turn c.distance-d.result o.ats o.sp o.i c.stepped-sp.result c.parent-p.result (get_or (set o.ats o.sp o.i)
    c.parent-p.result 0)
turn-then-not-follows c = record { step = c.stepped-sp.ensures; place = c.parent-p.ensures; node = refl }

within-else-not-follows : (c : goal.Else-not-follows) → c.loop-ats.i ≤ c.args.n
within-else-not-follows c = (fits-are _ _ _ _ _ _ (sym c.node_fits.ensures ∙ not-false _ c.if-not-node_fits.false-raw)).within

known-else-not-follows : (c : goal.Else-not-follows) →
    let o = c.loop-ats in
    let a = c.args in
    Known a.family a.w.now a.b a.n o.up o.bit o.i c.distance-d.result
known-else-not-follows c = record { fit = sym c.node_fits.ensures ∙ not-false _ c.if-not-node_fits.false-raw; dist = c.distance-d.ensures.0 }

turn-else-not-follows : (c : goal.Else-not-follows) →
    let o = c.loop-ats in
    Turn c.distance-d.result o.ats o.sp o.i c.stepped-sp.result c.parent-p.result (get_or (set o.ats o.sp o.i)
    c.parent-p.result 0)
turn-else-not-follows c = record { step = c.stepped-sp.ensures; place = c.parent-p.ensures; node = refl }

pub loop-ats-init : goal.loop-ats-init
unfolding reads
loop-ats-init c = begin _ refl (omega arith)

pub node_fits-requires : goal.node_fits-requires
unfolding reads
node_fits-requires c = (c.requires.0, (c.loop-ats.invariant.pos, c.loop-ats.invariant.above))

pub returns-then-not-node_fits : goal.returns-then-not-node_fits
unfolding reads
returns-then-not-node_fits c = gone c.requires.0 c.loop-ats.invariant (sym c.node_fits.ensures ∙ not-true _ c.if-not-node_fits.true-raw)

pub distance-d-requires : goal.distance-d-requires
unfolding reads
distance-d-requires c = record { kept_room = c.requires.0; le_i = (c.loop-ats.invariant.pos, within c) }

pub offset_bounds-ats-sp : goal.offset_bounds-ats-sp
unfolding reads
offset_bounds-ats-sp c = omega (arith, fit c)

pub bounds-ats-sp : goal.bounds-ats-sp
unfolding reads
bounds-ats-sp c = omega (arith, fit c, c.loop-ats.invariant.wide)

pub overflow_add-i : goal.overflow_add-i
unfolding reads
overflow_add-i c = omega (arith, within-distance-d c, c.requires.0.few)

pub stepped-sp-requires : goal.stepped-sp-requires
unfolding reads
stepped-sp-requires c = (c.loop-ats.invariant.high, fit c)

pub returns-then-sp-eq0 : goal.returns-then-sp-eq0
unfolding reads
returns-then-sp-eq0 c = stop c.requires.0 c.loop-ats.invariant (known-then-sp-eq0 c) _
    c.stepped-sp.ensures c.if-sp-eq0.true

pub parent-p-requires : goal.parent-p-requires
unfolding reads
parent-p-requires c = omega (arith, c.if-sp-eq0.false)

pub offset_bounds-ats-p : goal.offset_bounds-ats-p
unfolding reads
offset_bounds-ats-p c = omega (arith, where_next c)

pub bounds-ats-p : goal.bounds-ats-p
unfolding reads
bounds-ats-p c = omega (arith, where_next c, c.loop-ats.invariant.wide)

pub follows-requires : goal.follows-requires
unfolding reads
follows-requires c = (
  c.requires.0,
  turn-node c.requires.0
      c.loop-ats.invariant (known-parent-p c) (turn c) c.if-sp-eq0.false,
)

pub returns-then-not-follows : goal.returns-then-not-follows
unfolding reads
returns-then-not-follows c = off c.requires.0
    c.loop-ats.invariant (known-then-not-follows c) (turn-then-not-follows c) c.if-sp-eq0.false (sym c.follows.ensures ∙ not-true _ c.if-not-follows.true-raw)

pub loop-ats-smaller : goal.loop-ats-smaller
unfolding reads
loop-ats-smaller c = omega (arith, within-else-not-follows c)

pub loop-ats-preserved : goal.loop-ats-preserved
unfolding reads
loop-ats-preserved c = on c.requires.0
    c.loop-ats.invariant (known-else-not-follows c) (turn-else-not-follows c) c.if-sp-eq0.false (sym c.follows.ensures ∙ not-false _ c.if-not-follows.false-raw)
