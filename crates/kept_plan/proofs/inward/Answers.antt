-- `inward` meets its contract, by its tests. Assumes nothing.
use native.Mathlib.Omega.{arith}
use mathlib.Core.Path.{◌≡◌, sym, ◌∙◌}
use Prim.Native.Nat.{◌≤◌}
use Rattle.nets.specs.Tries.{side}
use Rattle.kept_reading.specs.NodeStrings.{ReadAs}
use Rattle.kept_plan.proofs.Plans.{plan-fork, plan-stay, plan-into, plan-edge, half_place, half-both, plan-drop, plan-down}
use Rattle.kept_plan.proofs.inward.Goals as goal

equal : (c : goal.Then-into) → let a = c.args in side a.bit a.m a.a ≡ side a.bit a.e a.m
equal c = let h = c.half_of-h.ensures in sym h.0 ∙ c.if-h.true ∙ h.1

equal-else-into : (c : goal.Else-into) → let a = c.args in side a.bit a.m a.a ≡ side a.bit a.e a.m
equal-else-into c = let h = c.half_of-h.ensures in sym h.0 ∙ c.if-h.true ∙ h.1

differ : (c : goal.Then-into-2) → let a = c.args in side a.bit a.m a.a ≡ side a.bit a.e a.m → ⊥
differ c = let h = c.half_of-h.ensures in λ z. c.if-h.false (h.0 ∙ z ∙ sym h.1)

differ-then-a-i : (c : goal.Then-a-i) → let a = c.args in side a.bit a.m a.a ≡ side a.bit a.e a.m → ⊥
differ-then-a-i c = let h = c.half_of-h.ensures in λ z. c.if-h.false (h.0 ∙ z ∙ sym h.1)

differ-struct_known-2-1 : (c : goal.After-struct_known-2-1) → let a = c.args in side a.bit a.m a.a ≡ side a.bit a.e a.m → ⊥
differ-struct_known-2-1 c = let h = c.half_of-h.ensures in λ z. c.if-h.false (h.0 ∙ z ∙ sym h.1)

place : (c : goal.After-struct_known-2-1) → let f = c.half_of-h.result.from in (1 ≤ f) × (f ≤ c.args.n) × (c.args.n ≤ 4194304)
place c = let (u, p, r, t, rest, g, k, s) = c.requires in
    let h = half_place g k s (differ-struct_known-2-1 c) in
    let e = c.half_of-h.ensures.0 in
    (omega (arith, h.0), omega (arith, h.1), g.room.few)

differ-net_at : (c : goal.After-net_at) → let a = c.args in side a.bit a.m a.a ≡ side a.bit a.e a.m → ⊥
differ-net_at c = let h = c.half_of-h.ensures in λ z. c.if-h.false (h.0 ∙ z ∙ sym h.1)

read : (c : goal.After-net_at) → let a = c.args in ReadAs a.family a.w.now a.b (side a.bit a.m a.a) c.net_at.result
read c = rw c.half_of-h.ensures.0 at c.net_at.ensures

differ-then-leads : (c : goal.Then-leads) → let a = c.args in side a.bit a.m a.a ≡ side a.bit a.e a.m → ⊥
differ-then-leads c = let h = c.half_of-h.ensures in λ z. c.if-h.false (h.0 ∙ z ∙ sym h.1)

read-then-leads : (c : goal.Then-leads) → let a = c.args in ReadAs a.family a.w.now a.b (side a.bit a.m a.a) c.net_at.result
read-then-leads c = rw c.half_of-h.ensures.0 at c.net_at.ensures

differ-else-leads : (c : goal.Else-leads) → let a = c.args in side a.bit a.m a.a ≡ side a.bit a.e a.m → ⊥
differ-else-leads c = let h = c.half_of-h.ensures in λ z. c.if-h.false (h.0 ∙ z ∙ sym h.1)

read-else-leads : (c : goal.Else-leads) → let a = c.args in ReadAs a.family a.w.now a.b (side a.bit a.m a.a) c.net_at.result
read-else-leads c = rw c.half_of-h.ensures.0 at c.net_at.ensures

pub returns-then-into : goal.returns-then-into
returns-then-into c u p r t rest g k s = rw c.if-into.true (plan-fork g k s (equal c))

pub returns-then-h : goal.returns-then-h
returns-then-h c u p r t rest g k s = rw c.if-into.false (plan-stay g k s (equal-else-into c))

pub returns-then-into-2 : goal.returns-then-into-2
returns-then-into-2 c u p r t rest g k s = rw c.if-into-2.true (plan-into g k s (differ c))

pub returns-then-a-i : goal.returns-then-a-i
returns-then-a-i c u p r t rest g k s = rw c.if-into-2.false (plan-edge g k s (differ-then-a-i c) c.if-a-i.true)

pub overflow_cast-h : goal.overflow_cast-h
overflow_cast-h c = omega (arith, place c)

pub net_at-requires : goal.net_at-requires
net_at-requires c = let (u, p, r, t, rest, g, k, s) = c.requires in
    let h = place c in
    record { kept_room = g.room; le_i = (h.0, h.1) }

pub leads-requires : goal.leads-requires
leads-requires c = let (u, p, r, t, rest, g, k, s) = c.requires in half-both g k s (differ-net_at c) (read c)

pub returns-then-leads : goal.returns-then-leads
returns-then-leads c u p r t rest g k s = rw c.if-into-2.false (plan-drop g k s (differ-then-leads c) (read-then-leads c) _ c.leads.ensures c.if-a-i.false c.if-leads.true)

pub returns : goal.returns
returns c u p r t rest g k s = rw c.if-into-2.false (plan-down g k s (differ-else-leads c) (read-else-leads c) _ c.leads.ensures c.if-a-i.false c.if-leads.false)
