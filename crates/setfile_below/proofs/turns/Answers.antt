-- `turns` meets its contract: it is the bit behind the path. Assumes nothing.
use mathlib.Core.Path.{◌∙◌}
use Rattle.setfile_below.proofs.Streams.{turn-short, turn_is}
use Rattle.setfile_below.proofs.turns.Goals as goal

pub bit_at-requires : goal.bit_at-requires
bit_at-requires c = let (q, p, l, r, ms, u, e) = c.requires in turn-short u e

pub returns : goal.returns
returns c q p l r ms u e = c.bit_at.ensures ∙ turn_is u e
