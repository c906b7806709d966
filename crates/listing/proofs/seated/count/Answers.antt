-- `seated::count` meets its contract, in each form by that form's count. Assumes nothing.
use borrow.Author.Rules.{rules}
use Rattle.listing.proofs.ByForm.{held_first, held-second, kept_small}
use Rattle.listing.proofs.seated.count.Goals as goal

pub count-requires : goal.count-requires
count-requires c = let (t, h) = c.requires in (t, (held_first h c.is_first.ensures c.if-is_first.true).stands)

pub returns-then-is_first : goal.returns-then-is_first
returns-then-is_first c t h = c.count.ensures t (held_first h c.is_first.ensures c.if-is_first.true).stands

pub count-requires-2 : goal.count-requires-2
count-requires-2 c = let (t, h) = c.requires in let k = held-second h c.is_first.ensures c.if-is_first.false in ((t, k.end), kept_small k)

pub returns : goal.returns
returns c t h = c.count-2.ensures t (held-second h c.is_first.ensures c.if-is_first.false).end
