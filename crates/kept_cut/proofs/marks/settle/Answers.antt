-- `marks::settle` meets its contract, by its tests. Assumes nothing.
use Rattle.kept_cut.proofs.Closed.{settle-first, settle-second, both-gone, lone-done, settle-gone}
use Rattle.kept_cut.proofs.marks.settle.Goals as goal

pub returns-then-first : goal.returns-then-first
returns-then-first c v e p t x y g ec ed = settle-first g ec ed c.if-first.true

pub returns-then-second : goal.returns-then-second
returns-then-second c v e p t x y g ec ed = settle-second g ec ed c.if-second.true

pub returns-then-a-i : goal.returns-then-a-i
returns-then-a-i c v e p t x y g ec ed = settle-gone g ec ed c.if-first.false c.if-second.false (lone-done (both-gone g ec ed c.if-first.false c.if-second.false) c.if-a-i.true)

pub lift-requires : goal.lift-requires
lift-requires c = let (v, e, p, t, x, y, g, ec, ed) = c.requires in
    (v, e, p, t, both-gone g ec ed c.if-first.false c.if-second.false, c.if-a-i.false)

pub returns : goal.returns
returns c v e p t x y g ec ed = let h = both-gone g ec ed c.if-first.false c.if-second.false in
    settle-gone g ec ed c.if-first.false c.if-second.false (c.lift.ensures v e p t h c.if-a-i.false)
