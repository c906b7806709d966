-- Two files gone through side by side, in numbers.
--
--   Meets w r x ms y ns     r is how ms from x on and ns from y on go on
use Rattle.std.specs.Prelude.{List, [], ◌∷◌, ◌≡◌, ℕ, ◌≤◌, ◌<◌}
use Rattle.nets.specs.Bits.{Bits}
use Rattle.nets.specs.Networks.{value}
use Rattle.setfile_sides.specs.Sides.{Reaches}
use Rattle.setfile_compare.specs.declared.Holder.TheVariants as holder
use Rattle.setfile_compare.specs.declared.abreast.Meet.{Meet}
use Rattle.setfile_compare.specs.declared.abreast.Meet.TheVariants as meet

-- ms from x on has an address before all those of ns from y on
abbrev pub Ahead : ℕ → List Bits → ℕ → List Bits → Type 0
Ahead x [] y ns = ⊥
Ahead x (p ∷ ms) y [] = Unit
Ahead x (p ∷ ms) y (q ∷ ns) = x < y

abbrev pub Meets : ℕ → Meet → ℕ → List Bits → ℕ → List Bits → Type 0
Meets w meet.Over x ms y ns = (ms ≡ []) × (ns ≡ [])
Meets w (meet.Differ holder.First a) x ms y ns = (value a.hi a.lo ≡ x) × Ahead x ms y ns
Meets w (meet.Differ holder.Second a) x ms y ns = (value a.hi a.lo ≡ y) × Ahead y ns x ms
Meets w (meet.Alike a) x ms y ns = (x ≡ y) × (x ≤ value a.hi a.lo) × Reaches w (value a.hi a.lo) ms × Reaches w (value a.hi a.lo) ns
