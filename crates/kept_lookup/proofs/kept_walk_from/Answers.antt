-- `kept_walk_from` meets its contract. The loop's invariant: the walk from here shows what the whole walk shows. Assumes nothing.
use native.Mathlib.Omega.{arith}
use mathlib.Core.Path.{sym, ◌∙◌}
use mathlib.Core.Path.{◌≡◌}
use mathlib.Core.Bool.{Bool, true, false}
use Rattle.nets.specs.Tries.{side}
use Prim.Native.Nat.{ℕ, ◌+◌, ◌≤◌}
use borrow.Author.Tests.{not-true, not-false}
use Rattle.kept_lookup.proofs.Turning.{query-few, ask-both, from-none, from-over, down-start, Met, down-over, down-shrunk, down-long, down-off, down-leaf, down-end, down-on}
use Rattle.kept_lookup.proofs.kept_walk_from.Goals as goal

step-le : (c : Bool) (d : ℕ) {x : ℕ} → x ≡ side c d 1 → x ≤ 1 + d
step-le true d e = omega arith
step-le false d e = omega arith

met : (c : goal.Then-s-least) →
    let a = c.args in
    let o = c.loop-i in
    Met a.family a.w.now a.b o.i c.net_at-s.result c.distance-d.result
met c = record { read = c.net_at-s.ensures; dist = c.distance-d.ensures.0 }

met-then-q-s : (c : goal.Then-q-s) →
    let a = c.args in
    let o = c.loop-i in
    Met a.family a.w.now a.b o.i c.net_at-s.result c.distance-d.result
met-then-q-s c = record { read = c.net_at-s.ensures; dist = c.distance-d.ensures.0 }

met-then-not-leads : (c : goal.Then-not-leads) →
    let a = c.args in
    let o = c.loop-i in
    Met a.family a.w.now a.b o.i c.net_at-s.result c.distance-d.result
met-then-not-leads c = record { read = c.net_at-s.ensures; dist = c.distance-d.ensures.0 }

met-then-d-eq0 : (c : goal.Then-d-eq0) →
    let a = c.args in
    let o = c.loop-i in
    Met a.family a.w.now a.b o.i c.net_at-s.result c.distance-d.result
met-then-d-eq0 c = record { read = c.net_at-s.ensures; dist = c.distance-d.ensures.0 }

met-then-s-q : (c : goal.Then-s-q) →
    let a = c.args in
    let o = c.loop-i in
    Met a.family a.w.now a.b o.i c.net_at-s.result c.distance-d.result
met-then-s-q c = record { read = c.net_at-s.ensures; dist = c.distance-d.ensures.0 }

met-struct_known-in-loop-i-5-1 : (c : goal.After-struct_known-in-loop-i-5-1) →
    let a = c.args in
    let o = c.loop-i in
    Met a.family a.w.now a.b o.i c.net_at-s.result c.distance-d.result
met-struct_known-in-loop-i-5-1 c = record { read = c.net_at-s.ensures; dist = c.distance-d.ensures.0 }

pub returns-then-root-eq0 : goal.returns-then-root-eq0
returns-then-root-eq0 c = from-none _ _ _ _ _ _ c.if-root-eq0.true

pub returns-then-n-root : goal.returns-then-n-root
returns-then-n-root c = from-over _ _ _ _ _ _ c.if-n-root.true

pub loop-i-init : goal.loop-i-init
loop-i-init c = down-start c.requires.1 c.if-root-eq0.false c.if-n-root.false

pub distance-d-requires : goal.distance-d-requires
distance-d-requires c = record { kept_room = c.requires.0; le_i = (c.loop-i.invariant.one, c.loop-i.invariant.within) }

pub overflow_add-i : goal.overflow_add-i
overflow_add-i c = omega (arith, c.distance-d.ensures.1, c.loop-i.invariant.within, c.requires.0.few)

pub returns-then-n-i : goal.returns-then-n-i
returns-then-n-i c = down-over c.requires.1 c.loop-i.invariant (rw c.distance-d.ensures.0 at
    c.if-n-i.true)

pub net_at-s-requires : goal.net_at-s-requires
net_at-s-requires c = record { kept_room = c.requires.0; le_i = (c.loop-i.invariant.one, c.loop-i.invariant.within) }

pub returns-then-s-least : goal.returns-then-s-least
returns-then-s-least c = down-shrunk c.requires.1 c.loop-i.invariant (met c)
    c.if-n-i.false c.if-s-least.true

pub returns-then-q-s : goal.returns-then-q-s
returns-then-q-s c = down-long c.requires.1
    c.loop-i.invariant (met-then-q-s c) c.if-n-i.false c.if-s-least.false c.if-q-s.true

pub leads-requires : goal.leads-requires
leads-requires c = ask-both c.requires.0 c.requires.1 c.net_at-s.ensures c.if-q-s.false

pub returns-then-not-leads : goal.returns-then-not-leads
returns-then-not-leads c = down-off c.requires.1 c.loop-i.invariant (met-then-not-leads c) c.if-n-i.false
    c.if-s-least.false c.if-q-s.false (sym c.leads.ensures ∙ not-true _ c.if-not-leads.true-raw)

pub overflow_add-count : goal.overflow_add-count
overflow_add-count c = omega (
  arith,
  c.loop-i.invariant.grown,
  c.loop-i.invariant.inside,
  query-few
      c.requires.1,
)

pub returns-then-d-eq0 : goal.returns-then-d-eq0
returns-then-d-eq0 c = down-leaf c.requires.1 c.loop-i.invariant (met-then-d-eq0 c) c.if-n-i.false
    c.if-s-least.false c.if-q-s.false (sym c.leads.ensures ∙ not-false _ c.if-not-leads.false-raw) c.if-d-eq0.true

pub returns-then-s-q : goal.returns-then-s-q
returns-then-s-q c = down-end c.requires.1 c.loop-i.invariant (met-then-s-q c) c.if-n-i.false
    c.if-s-least.false c.if-q-s.false (sym c.leads.ensures ∙ not-false _ c.if-not-leads.false-raw) c.if-d-eq0.false c.if-s-q.true

pub bit_at-requires : goal.bit_at-requires
bit_at-requires c = (c.requires.1.is, omega (arith, c.if-s-q.false, c.if-q-s.false))

pub overflow_add-i-in-loop-i : goal.overflow_add-i-in-loop-i
overflow_add-i-in-loop-i c = omega (
  arith,
  step-le c.bit_at.result
      c.distance-d.result
      c.step-i.ensures,
  c.distance-d.ensures.1,
  c.loop-i.invariant.within,
  c.requires.0.few,
)

pub overflow_add-least : goal.overflow_add-least
overflow_add-least c = omega (
  arith,
  c.if-s-q.false,
  c.if-q-s.false,
  query-few
      c.requires.1,
)

pub loop-i-smaller : goal.loop-i-smaller
loop-i-smaller c = omega (
  arith,
  c.if-s-q.false,
  c.if-q-s.false,
  c.if-s-least.false,
)

pub loop-i-preserved : goal.loop-i-preserved
loop-i-preserved c = down-on c.requires.1 c.loop-i.invariant (met-struct_known-in-loop-i-5-1 c)
    c.if-n-i.false c.if-s-least.false c.if-q-s.false (sym c.leads.ensures
    ∙ not-false _ c.if-not-leads.false-raw) c.if-d-eq0.false c.if-s-q.false _ _
    c.bit_at.ensures c.step-i.ensures
