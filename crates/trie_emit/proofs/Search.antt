-- What holds of each node from k on that has two more before node e, where it holds of those before node n: of node n too, and of all. Assumes nothing.
use mathlib.Core.Path.{◌≡◌}
use Prim.Native.Nat.{ℕ, ◌+◌, ◌-◌, ◌≤◌, ◌<◌}
use native.Mathlib.Decide.{dec_lt}
use native.Mathlib.Omega.{arith}

module _ (P : ℕ → Type 0) (k e n : ℕ) (h : (j : ℕ) → k ≤ j → j < n → j + 2 < e → P j) where
  pub one_more : P n → (j : ℕ) → k ≤ j → j < n + 1 → j + 2 < e → P j
  one_more p j le lt fit = go (dec_lt j n)
    where
      go : Dec (j < n) → P j
      go (yes x) = h j le x fit
      go (no x) = let q : j ≡ n = omega arith in rw q p

  pub all_before : (m : ℕ) → m ≡ e - 2 → m ≤ n → (j : ℕ) → k ≤ j → j < e → j + 2 < e → P j
  all_before m is end j le lt fit = h j le (omega arith) fit
