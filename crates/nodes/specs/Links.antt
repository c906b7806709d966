-- The word of a node by numbers: its first child ends at m, its second child begins at m and ends at e; a child that begins where it ends is none.
use Rattle.std.specs.Prelude.{cond, ℕ, ◌+◌, ◌-◌, ◌*◌, eqb}

abbrev pub to_first : ℕ → ℕ → ℕ
to_first i m = cond (eqb (i + 1) m) 0 1

abbrev pub to_second : ℕ → ℕ → ℕ → ℕ
to_second i m e = cond (eqb m e) 0 (m - i)

unfoldable pub linked : ℕ → ℕ → ℕ → ℕ
linked i m e = to_first i m + 2 * to_second i m e
