-- What is told of a place of a list.
--
--   told_of b n x     the answer of a walk with the number x, where the network n is there or not
use Rattle.std.specs.Prelude.{◌≡◌, Bool, true, cond, ◌⊎◌, ℕ}
use Rattle.nets.specs.Refusals.{answered}
use Rattle.nets.specs.declared.Net.{Net}
use Rattle.listing.specs.Calls.{nothing}

-- the numbers of a walk
abbrev pub IsNo : ℕ → Type 0
IsNo x = (x ≡ 0) ⊎ ((x ≡ 2) ⊎ (x ≡ 3))

abbrev pub told_of : Bool → Net → ℕ → ℕ × (Bool × Net)
told_of b n x = answered x nothing (cond b (true, n) nothing)
