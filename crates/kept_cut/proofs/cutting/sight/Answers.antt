-- `cutting::sight` meets its contract. Assumes nothing.
use native.Mathlib.Omega.{arith}
use mathlib.Core.Path.{sym, ◌∙◌}
use Rattle.kept_cut.proofs.Steps.{sight-whole, sight-view, depth-few}
use Rattle.kept_cut.proofs.cutting.sight.Goals as goal

pub is_whole-requires : goal.is_whole-requires
is_whole-requires c = tt

pub returns-then-is_whole : goal.returns-then-is_whole
returns-then-is_whole c q p u ms t g h k = sight-whole u t (sym (c.is_whole.ensures q p u ms h k) ∙ c.if-is_whole.true)

pub overflow_cast-s : goal.overflow_cast-s
overflow_cast-s c = let (q, p, u, ms, t, g, h, k) = c.requires in omega (arith, depth-few h k)

pub look-requires : goal.look-requires
look-requires c = let (q, p, u, ms, t, g, h, k) = c.requires in (_, p, t, _, g, sym h.depth)

pub returns : goal.returns
returns c q p u ms t g h k = sight-view _ u t (sym (c.is_whole.ensures q p u ms h k) ∙ c.if-is_whole.false) (c.look.ensures _ p t _ g (sym h.depth))
