-- `joining::next_join` meets its contract, by the search. Assumes nothing.
use borrow.Author.Rules.{rules}
use Rattle.kept_simplify.proofs.joining.next_join.Goals as goal

pub returns : goal.returns
returns c = record { no = λ j le lt fit. let h = c.next_join.ensures j le lt fit in search (rules, h) }
