-- `feed` meets its contract, by whether a line was refused and whether the pool is sound. Assumes nothing.
use Rattle.std.proofs.Common.{rules}
use mathlib.Core.Path.{sym, ◌∙◌}
use Rattle.pool_state.proofs.Seen.{surveyed-first}
use Rattle.lines.proofs.Steps.{fed-refused, fed-damaged, fed-passed}
use Rattle.lines.proofs.feed.Goals as goal

pub returns-then-r-ne0 : goal.returns-then-r-ne0
returns-then-r-ne0 c = let a = c.args in fed-refused a.pool.now a.r a.piece.now c.if-r-ne0.true

pub returns-in_default : goal.returns-in_default
returns-in_default c = let a = c.args in
    fed-damaged a.pool.now a.r c.if-r-ne0.false a.piece.now (sym c.in_default.is ∙ c.survey-seen.ensures) c.damaged.ensures

pub pass-requires : goal.pass-requires
pass-requires c = surveyed-first (sym c.in-Some.is ∙ c.survey-seen.ensures)

pub returns : goal.returns
returns c = let a = c.args in
    fed-passed a.pool.now a.r c.if-r-ne0.false a.piece.now (sym c.in-Some.is ∙ c.survey-seen.ensures) c.pass.ensures
