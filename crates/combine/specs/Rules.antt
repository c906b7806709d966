-- The calls on two sets, the first and the second.
--
--   combine_rules                                    the rules of the three sets as arguments: those of combine_sources, where Combined is said
--   Merged, Intersected, Excluded, ExcludedApart    the uses of Combined
use Rattle.std.specs.Prelude.{List, ℕ}
use Rattle.nets.specs.Lists.{merge_l, intersect_l, difference_l, exclude_l}
use Rattle.combine_sources.specs.Rules.{Combined}
unfoldable pub use Rattle.combine_sources.specs.Rules.{combine_rules}

abbrev pub Merged : List ℕ → ℕ → ℕ → ℕ → ℕ × ℕ → List ℕ → Type 0
Merged = Combined merge_l

abbrev pub Intersected : List ℕ → ℕ → ℕ → ℕ → ℕ × ℕ → List ℕ → Type 0
Intersected = Combined intersect_l

abbrev pub Excluded : List ℕ → ℕ → ℕ → ℕ → ℕ × ℕ → List ℕ → Type 0
Excluded = Combined difference_l

abbrev pub ExcludedApart : List ℕ → ℕ → ℕ → ℕ → ℕ × ℕ → List ℕ → Type 0
ExcludedApart = Combined exclude_l
