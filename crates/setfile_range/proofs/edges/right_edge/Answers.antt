-- `edges::right_edge` meets its contract. Assumes nothing.
use mathlib.Core.Bool.{not}
use mathlib.Core.Path.{ap, ◌∙◌}
use lib.Dec.{eqb}
use Rattle.setfile_range.proofs.Walking.{after-low, told-address}
use Rattle.setfile_range.proofs.edges.right_edge.Goals as goal

pub edge_at-requires : goal.edge_at-requires
edge_at-requires c = (c.requires.0, after-low _ _ c.after-b.ensures)

pub returns : goal.returns
returns c = let e = told-address c.after-b.ensures in (c.edge_at.ensures.0 ∙ c.is_some.ensures ∙ ap (λ n. not (eqb n 0)) e, rw e at c.edge_at.ensures.1)
