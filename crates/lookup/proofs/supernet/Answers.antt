-- `supernet` meets its contract, by what is shown. Assumes nothing.
use mathlib.Core.Path.{◌∙◌}
use borrow.Author.Rules.{rules}
use Rattle.lookup.proofs.Asked.{supernet-by, shown-cut}
use Rattle.lookup.proofs.supernet.Goals as goal

pub member-requires : goal.member-requires
member-requires c = (shown-cut _ _ _ _ _ c.lookup-s.ensures c.in-Member.is).0

pub returns-in-Member : goal.returns-in-Member
returns-in-Member c = c.member.ensures ∙ supernet-by _ _ _ _ _ c.lookup-s.ensures c.in-Member.is

pub returns-in-Nothing : goal.returns-in-Nothing
returns-in-Nothing c = rw c.has_bit_past.ensures (supernet-by _ _ _ _ _ c.lookup-s.ensures c.in-Nothing.is)

pub returns-in-Refused : goal.returns-in-Refused
returns-in-Refused c = supernet-by _ _ _ _ _ c.lookup-s.ensures c.in-Refused.is
