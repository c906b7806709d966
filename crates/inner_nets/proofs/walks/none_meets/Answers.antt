-- `walks::none_meets` meets its contract: every family but 4 has the networks of 6. Assumes nothing.
use mathlib.Core.Path.{sym, ◌∙◌}
use native.Mathlib.Omega.{arith}
use Rattle.inner_nets.proofs.Numbered.{inner_nets-6}
use Rattle.inner_nets.proofs.walks.none_meets.Goals as goal

pub none_of-requires-else-family-clause-inner : goal.none_of-requires-else-family-clause-inner
none_of-requires-else-family-clause-inner g c =
    c.inner_nets-else-family.ensures ∙ inner_nets-6 6 (λ e. absurd (omega (arith, e))) ∙ sym (inner_nets-6 _ c.if-family.false)
