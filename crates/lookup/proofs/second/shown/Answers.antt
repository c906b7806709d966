-- `second::shown` meets its contract. Assumes nothing.
use mathlib.Core.Path.{ap, sym}
use borrow.Author.Rules.{rules}
use Rattle.lookup.specs.Rules.{shown_of}
use Rattle.lookup.proofs.second.shown.Goals as goal

pub returns-in-Member : goal.returns-in-Member
returns-in-Member c = ap shown_of (sym c.in-Member.is)

pub returns-in-Nothing : goal.returns-in-Nothing
returns-in-Nothing c = ap shown_of (sym c.in-Nothing.is)

pub returns-in-Damaged : goal.returns-in-Damaged
returns-in-Damaged c = ap shown_of (sym c.in-Damaged.is)
