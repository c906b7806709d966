-- `joining::is_join` meets its contract, by its tests. Assumes nothing.
use mathlib.Core.Bool.{false≢true}
use mathlib.Core.Path.{◌≡◌, sym, ◌∙◌}
use Prim.Native.Nat.{◌+◌, ◌-◌}
use native.Mathlib.Omega.{arith}
use borrow.Author.Tests.{eq-eqb}
use Rattle.trie_blocks.proofs.joining.is_join.Goals as goal

pub returns-then-w-b-eq-FORK : goal.returns-then-w-b-eq-FORK
returns-then-w-b-eq-FORK c e x y = let a = c.args in
    let q : a.b + (a.n + 2 - 1) ≡ a.b + (a.n + 1) = omega arith in
    false≢true (sym e ∙ eq-eqb _ 0 (rw q at y))
