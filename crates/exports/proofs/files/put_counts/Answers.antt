-- `put_counts` meets its contract, arm by arm. Assumes nothing.
use borrow.Author.Rules.{rules}
use Rattle.exports.proofs.Told.{counts-file, counts-refused}
use Rattle.exports.proofs.files.put_counts.Goals as goal

pub returns-in-Ok : goal.returns-in-Ok
returns-in-Ok c = counts-file _ c.in-Ok.c c.in-Ok.is

pub returns-in-Err : goal.returns-in-Err
returns-in-Err c = counts-refused _ _ c.in-Err.is
