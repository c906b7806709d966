-- `combining::are_mixed` meets its contract, by its tests. Assumes nothing.
use mathlib.Core.Bool.{false≢true}
use mathlib.Core.Path.{sym, ◌∙◌}
use borrow.Author.Tests.{eqb-true, eq-eqb}
use Rattle.trie_combine.proofs.combining.are_mixed.Goals as goal

pub returns-else-x-eq-MIXED : goal.returns-else-x-eq-MIXED
returns-else-x-eq-MIXED c = (λ e. absurd (c.if-x-eq-MIXED.false (eqb-true _ 1 e)), λ e p q. c.if-x-eq-MIXED.false p)

pub returns-then-x-eq-MIXED : goal.returns-then-x-eq-MIXED
returns-then-x-eq-MIXED c = (λ e. (c.if-x-eq-MIXED.true, eqb-true _ 1 e), λ e p q. false≢true (sym e ∙ eq-eqb _ 1 q))
