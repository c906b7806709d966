-- The places between which the words of the sets behind a set move are in the slice, however many words a node takes. Assumes nothing.
use Prim.Native.Nat.{ℕ, ◌+◌, ◌-◌, ◌*◌, ◌≤◌}
use native.Mathlib.Nat.{mul-le-mul_right}
use native.Mathlib.Omega.{arith}
use mathlib.Core.List.{List}
use lib.ListN.{length}
use Rattle.pool_state.specs.Steps.{Shiftable}
use Rattle.pool_state.specs.declared.Survey.{Survey}

module _ {s : ℕ} {w : List ℕ} {b : ℕ} {v : Survey} {n : ℕ} (h : Shiftable s w b v n) where
  -- so many nodes take at most eight words each
  few : (m : ℕ) → s * m ≤ 8 * m
  few m = mul-le-mul_right m h.few

  pub from-fits : b + s * (v.at + v.held - 1) + s * (v.used + 1 - (v.at + v.held)) ≤ length w
  from-fits = omega (arith, h.first, h.last, h.long, few (v.at + v.held - 1), few (v.used + 1 - (v.at + v.held)))

  pub to-fits : b + s * (v.at + n - 1) + s * (v.used + 1 - (v.at + v.held)) ≤ length w
  to-fits = omega (arith, h.first, h.last, h.room, few (v.at + n - 1), few (v.used + 1 - (v.at + v.held)))
