-- `changes::write` meets its contract. Assumes nothing.
use Rattle.calls_changes.specs.Changes.{write_of}
use borrow.Author.Rules.{rules}
use Rattle.calls_changes.proofs.write.Goals as goal

pub returns : goal.returns
unfolding write_of
returns c = rw (c.only.ensures, c.store_words.ensures)
