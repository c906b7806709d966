-- `kind` meets its contract, by its tests. Assumes nothing.
use native.Mathlib.Omega.{arith}
use mathlib.Core.Path.{sym, ◌∙◌}
use Prim.Native.Nat.{◌≤◌}
use Rattle.kept_sources.proofs.Meaning.{kind-none, kind-all, kind-place, kind-leaf, kind-inner}
use Rattle.kept_sources.proofs.kind.Goals as goal

place : (c : goal.Else-i-eq-ALL) → (1 ≤ c.args.i) × (c.args.i ≤ c.args.n)
place c = let (o, g, p, t, m, e) = c.requires.1 in kind-place _ t m c.if-i-eq0.false c.if-i-eq-ALL.false

pub returns-then-i-eq0 : goal.returns-then-i-eq0
returns-then-i-eq0 c o g p t m e = kind-none _ t m c.if-i-eq0.true

pub returns-then-i-eq-ALL : goal.returns-then-i-eq-ALL
returns-then-i-eq-ALL c o g p t m e = kind-all c.requires.0.few _ t m c.if-i-eq-ALL.true

pub overflow_cast-i : goal.overflow_cast-i
overflow_cast-i c = omega (arith, place c, c.requires.0.few)

pub head-requires : goal.head-requires
head-requires c = record { kept_room = c.requires.0; le_i = place c }

pub returns-then-head-d : goal.returns-then-head-d
returns-then-head-d c o g p t m e = kind-leaf _ t m c.if-i-eq0.false c.if-i-eq-ALL.false (sym c.head.ensures ∙ c.if-head-d.true ∙ sym e)

pub returns : goal.returns
returns c o g p t m e = kind-inner _ t m c.if-i-eq0.false c.if-i-eq-ALL.false (λ q. c.if-head-d.false (c.head.ensures ∙ q ∙ e))
