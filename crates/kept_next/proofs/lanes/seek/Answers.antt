-- `lanes::seek` meets its contract: the number read grows. Assumes nothing.
use native.Mathlib.Omega.{arith}
use mathlib.Core.Bool.{Bool, true, false}
use mathlib.Core.Path.{◌≡◌}
use Prim.Native.Nat.{ℕ, ◌+◌, ◌/◌, ◌≤◌}
use Rattle.nets.specs.Tries.{side}
use Rattle.kept_next.proofs.lanes.seek.Goals as goal

toward : (s : Bool) (d : ℕ) {x : ℕ} → x ≡ side s d 1 → 1 ≤ d → (1 ≤ x) × (x ≤ 1 + d)
toward true d e h = omega arith
toward false d e h = omega arith

grows : (c : goal.After-step) → (1 ≤ c.step.result) × (c.step.result ≤ 16777216)
grows c = omega (arith, toward c.bit_at.result (c.head-h.result / 256) c.step.ensures (omega (arith, c.if-h-lt256.false)))

pub overflow_cast-k : goal.overflow_cast-k
overflow_cast-k c = omega (arith, c.loop-k-test.true, c.requires)

pub head-h-requires : goal.head-h-requires
head-h-requires c = record { kept_room = c.requires.kept_room.0; le_i = omega (arith, c.loop-k.invariant, c.loop-k-test.true, c.requires) }

pub returns-then-h-lt256 : goal.returns-then-h-lt256
returns-then-h-lt256 c = c.loop-k.invariant

pub returns-then-x-len : goal.returns-then-x-len
returns-then-x-len c = c.loop-k.invariant

pub bit_at-requires : goal.bit_at-requires
bit_at-requires c = (c.requires.kept_room.1, omega (arith, c.if-x-len.false))

pub step-requires : goal.step-requires
step-requires c = tt

pub overflow_add-k : goal.overflow_add-k
overflow_add-k c = omega (arith, grows c, c.loop-k-test.true, c.requires)

pub loop-k-smaller : goal.loop-k-smaller
loop-k-smaller c = omega (arith, grows c, c.loop-k-test.true)

pub loop-k-preserved : goal.loop-k-preserved
loop-k-preserved c = omega (arith, grows c, c.loop-k.invariant)

pub returns : goal.returns
returns c = c.loop-k.invariant
