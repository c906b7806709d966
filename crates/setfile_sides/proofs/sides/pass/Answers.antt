-- `sides::pass` meets its contract: the network reaches further, or the file goes on to the next one. Assumes nothing.
use Rattle.std.proofs.Common.{sym, ◌∙◌, rules}
use Rattle.setfile_sides.proofs.Standing.{pass-stay, pass-requires, pass-next}
use Rattle.setfile_sides.proofs.sides.pass.Goals as goal

pub returns-then-less : goal.returns-then-less
returns-then-less c t x ms a r = pass-stay _ _ a r (sym c.less.ensures ∙ c.if-less.true) c.behind.ensures

pub advance-next-requires : goal.advance-next-requires
advance-next-requires c = let p = c.requires in pass-requires _ p.3 p.4

pub returns : goal.returns
returns c t x ms a r = pass-next _ _ _ _ a r (sym c.less.ensures ∙ c.if-less.false) c.advance-next.ensures
    c.still_short-short.ensures c.arrived.ensures
