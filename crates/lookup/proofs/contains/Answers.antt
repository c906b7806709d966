-- `contains` meets its contract, by what is shown. Assumes nothing.
use borrow.Author.Rules.{rules}
use Rattle.lookup.proofs.Asked.{contains_by}
use Rattle.lookup.proofs.contains.Goals as goal

pub returns-in-Member : goal.returns-in-Member
returns-in-Member c = rw c.has_bit_past.ensures (contains_by _ _ _ _ _ c.lookup-s.ensures c.in-Member.is)

pub returns-in-Nothing : goal.returns-in-Nothing
returns-in-Nothing c = rw c.has_bit_past-in-Nothing.ensures (contains_by _ _ _ _ _ c.lookup-s.ensures c.in-Nothing.is)

pub returns-in-Refused : goal.returns-in-Refused
returns-in-Refused c = contains_by _ _ _ _ _ c.lookup-s.ensures c.in-Refused.is
