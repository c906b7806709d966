-- `lining::either` meets its contract. Assumes nothing.
use mathlib.Core.Bool.{false≢true}
use mathlib.Core.Path.{refl, sym, ◌∙◌}
use Rattle.setfile_lanes.proofs.lining.either.Goals as goal

pub returns-then-first : goal.returns-then-first
returns-then-first c = (λ e. refl, λ e. absurd (false≢true (sym e ∙ c.if-first.true)))

pub returns-else-first : goal.returns-else-first
returns-else-first c = (λ e. absurd (false≢true (sym c.if-first.false ∙ e)), λ e. refl)
