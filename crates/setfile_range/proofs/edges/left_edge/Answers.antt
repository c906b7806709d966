-- `edges::left_edge` meets its contract. Assumes nothing.
use mathlib.Core.Path.{◌∙◌}
use Rattle.setfile_range.proofs.Walking.{front_low, told-address}
use Rattle.setfile_range.proofs.edges.left_edge.Goals as goal

pub edge_at-requires : goal.edge_at-requires
edge_at-requires c = (c.requires.0, front_low c.in_front.ensures c.requires.1)

pub returns : goal.returns
returns c = (c.edge_at.ensures.0 ∙ c.is_some.ensures, rw (told-address c.in_front.ensures) at c.edge_at.ensures.1)
