-- `seated::go_on` meets its contract, in each form by that form's step. Assumes nothing.
use borrow.Author.Rules.{rules}
use Rattle.listing.proofs.ByForm.{held_first, held-second, goes_first, goes-second}
use Rattle.listing.proofs.seated.go_on.Goals as goal

pub go_on-requires : goal.go_on-requires
go_on-requires c = goes_first c.requires c.is_first.ensures c.if-is_first.true

pub returns-then-is_first : goal.returns-then-is_first
returns-then-is_first c t h = c.go_on.ensures t (held_first h c.is_first.ensures c.if-is_first.true)

pub go_on-requires-2 : goal.go_on-requires-2
go_on-requires-2 c = goes-second c.requires c.is_first.ensures c.if-is_first.false

pub returns : goal.returns
returns c t h = c.go_on-2.ensures t (held-second h c.is_first.ensures c.if-is_first.false)
