-- How many zeros an array is made of, for one that is too long to be counted zero by zero. Assumes nothing.
use mathlib.Core.Path.{◌≡◌, sym}
use Prim.Native.Nat.{ℕ}
use lib.ListN.{length, replicate, length-replicate}

pub count_zeros : (n : ℕ) → n ≡ length {A = ℕ} (replicate n 0)
count_zeros n = sym (length-replicate n 0)
