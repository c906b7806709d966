-- `finish` meets its contract, by whether a line was refused, whether the pool is sound and whether a line lacks its line feed. Assumes nothing.
use Rattle.std.proofs.Common.{rules}
use mathlib.Core.Path.{sym, ◌∙◌}
use Rattle.pool_state.proofs.Seen.{surveyed-first}
use Rattle.lines.proofs.Steps.{closed_none, closed-line, finished-refused, finished-damaged, finished-closed}
use Rattle.lines.proofs.finish.Goals as goal

pub returns-then-r-ne0 : goal.returns-then-r-ne0
returns-then-r-ne0 c = let a = c.args in finished-refused a.pool.now a.r c.if-r-ne0.true

pub returns-in_default : goal.returns-in_default
returns-in_default c = let a = c.args in
    finished-damaged a.pool.now a.r c.if-r-ne0.false (sym c.in_default.is ∙ c.survey-seen.ensures) c.damaged.ensures

pub returns-then-r-eq0 : goal.returns-then-r-eq0
returns-then-r-eq0 c = let a = c.args in
    finished-closed a.pool.now a.r c.if-r-ne0.false (sym c.in-Some.is ∙ c.survey-seen.ensures) (closed_none a.pool.now a.r c.if-r-ne0.false c.if-r-eq0.true)

pub end-g-requires : goal.end-g-requires
end-g-requires c = surveyed-first (sym c.in-Some.is ∙ c.survey-seen.ensures)

pub returns : goal.returns
returns c = let a = c.args in
    finished-closed a.pool.now a.r c.if-r-ne0.false (sym c.in-Some.is ∙ c.survey-seen.ensures) (closed-line a.pool.now a.r c.if-r-ne0.false c.if-r-eq0.false c.end-g.ensures.comes)
