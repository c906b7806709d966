-- `marlbrace_lines` meets its contract: lines, with its answer in one number. Assumes nothing.
use borrow.Author.Rules.{rules}
use Rattle.exports.proofs.Told.{lines-told}
use Rattle.exports.proofs.changing.marlbrace_lines.Goals as goal

pub returns : goal.returns
returns c = lines-told c.start.ensures c.feed-fed.ensures c.finish-r.ensures c.only.ensures c.packed.ensures
