-- `may_plan` meets its contract, by its tests. Assumes nothing.
use borrow.Author.Rules.{rules}
use Rattle.pool_state.proofs.Seen.{seen_as}
use Rattle.replan.proofs.Plans.{fits-share, fits-held, fits-room}
use Rattle.replan.proofs.may_plan.Goals as goal

pub returns-then-limit-share : goal.returns-then-limit-share
returns-then-limit-share c = λ S d. fits-share (seen_as c.requires S d) c.if-limit-share.true

pub returns-then-limit-held : goal.returns-then-limit-held
returns-then-limit-held c = λ S d. fits-held (seen_as c.requires S d) c.if-limit-share.false c.if-limit-held.true

pub returns : goal.returns
returns c = λ S d. fits-room (seen_as c.requires S d) c.if-limit-share.false c.if-limit-held.false (c.room-space.ensures S d)
