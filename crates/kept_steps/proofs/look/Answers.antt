-- `look` meets its contract, by its tests. Assumes nothing.
use native.Mathlib.Omega.{arith}
use Prim.Native.Nat.{◌≤◌}
use Rattle.kept_steps.proofs.Views.{look_none, look-place, look-leaf, look-both, look-near, look-string, look-edge}
use Rattle.kept_steps.proofs.look.Goals as goal

place : (c : goal.Else-i-e) → let a = c.args in (1 ≤ a.i) × (a.i ≤ a.n) × (a.n ≤ 4194304)
place c = let (u, p, t, rest, g, d) = c.requires in let k = look-place g c.if-i-e.false in (k.0, k.1, g.room.few)

place-else-x-lt256 : (c : goal.Else-x-lt256) → let a = c.args in (1 ≤ a.i) × (a.i ≤ a.n) × (a.n ≤ 4194304)
place-else-x-lt256 c = let (u, p, t, rest, g, d) = c.requires in let k = look-place g c.if-i-e.false in (k.0, k.1, g.room.few)

place-else-x-d : (c : goal.Else-x-d) → let a = c.args in (1 ≤ a.i) × (a.i ≤ a.n) × (a.n ≤ 4194304)
place-else-x-d c = let (u, p, t, rest, g, d) = c.requires in let k = look-place g c.if-i-e.false in (k.0, k.1, g.room.few)

pub returns-then-i-e : goal.returns-then-i-e
returns-then-i-e c u p t rest g d = look_none g c.if-i-e.true

pub overflow_cast-i : goal.overflow_cast-i
overflow_cast-i c = omega (arith, place c)

pub head-x-requires : goal.head-x-requires
head-x-requires c = let (u, p, t, rest, g, d) = c.requires in
    let k = place c in
    record { kept_room = g.room; le_i = (k.0, k.1) }

pub returns-then-x-lt256 : goal.returns-then-x-lt256
returns-then-x-lt256 c u p t rest g d = look-leaf g c.if-i-e.false _ _ c.head-x.ensures d c.if-x-d.true c.if-x-lt256.true

pub overflow_add-result : goal.overflow_add-result
overflow_add-result c = omega (arith, place-else-x-lt256 c)

pub overflow_add-result-then-x-d : goal.overflow_add-result-then-x-d
overflow_add-result-then-x-d c = let (u, p, t, rest, g, d) = c.requires in
    omega (arith, place-else-x-lt256 c, look-near g c.if-i-e.false _ _ c.head-x.ensures d c.if-x-d.true)

pub returns-then-x-d : goal.returns-then-x-d
returns-then-x-d c u p t rest g d = look-both g c.if-i-e.false _ _ c.head-x.ensures d c.if-x-d.true c.if-x-lt256.false

pub overflow_cast-i-2 : goal.overflow_cast-i-2
overflow_cast-i-2 c = omega (arith, place-else-x-d c)

pub net_at-s-requires : goal.net_at-s-requires
net_at-s-requires c = let (u, p, t, rest, g, d) = c.requires in
    let k = place-else-x-d c in
    record { kept_room = g.room; le_i = (k.0, k.1) }

pub bit_at-requires : goal.bit_at-requires
bit_at-requires c = let (u, p, t, rest, g, d) = c.requires in
    look-string g c.if-i-e.false _ _ c.head-x.ensures d c.if-x-d.false _ c.net_at-s.ensures

pub returns-then-bit_at : goal.returns-then-bit_at
returns-then-bit_at c u p t rest g d = rw c.if-bit_at.true at (look-edge g c.if-i-e.false _ _ c.head-x.ensures d c.if-x-d.false _ c.net_at-s.ensures _ c.bit_at.ensures)

pub returns : goal.returns
returns c u p t rest g d = rw c.if-bit_at.false at (look-edge g c.if-i-e.false _ _ c.head-x.ensures d c.if-x-d.false _ c.net_at-s.ensures _ c.bit_at.ensures)
