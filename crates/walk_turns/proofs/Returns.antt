-- A law for each return of `told`. Assumes nothing.
use mathlib.Core.Path.{◌≡◌}
use mathlib.Core.Bool.{Bool, true, false}
use mathlib.Core.Logic.{inl, inr}
use Prim.Native.Nat.{ℕ}
use Rattle.nets.specs.declared.Net.{Net}
use Rattle.nets.specs.declared.Refusal.TheVariants.{Damaged, NoSet}
use Rattle.listing.specs.Calls.{follower_as}
use Rattle.walk_turns.specs.Turns.{IsNo, told_of}
use Rattle.std.specs.Prelude.{Ok, Err, Some, None}

module _ (b : Bool) (n : Net) (x : ℕ) where
  pub told-damaged : x ≡ 2 → follower_as (Err Damaged) ≡ told_of b n x
  told-damaged e = rw e

  pub told-noset : x ≡ 3 → follower_as (Err NoSet) ≡ told_of b n x
  told-noset e = rw e

  granted : (x ≡ 2 → ⊥) → (x ≡ 3 → ⊥) → IsNo x → x ≡ 0
  granted a b (inl e) = e
  granted a b (inr (inl e)) = absurd (a e)
  granted a b (inr (inr e)) = absurd (b e)

  module _ (a : x ≡ 2 → ⊥) (c : x ≡ 3 → ⊥) (i : IsNo x) where
    pub told-network : b ≡ true → follower_as (Ok (Some n)) ≡ told_of b n x
    told-network m = rw (granted a c i, m)

    pub told-end : b ≡ false → follower_as (Ok None) ≡ told_of b n x
    told-end m = rw (granted a c i, m)
