-- `marlbrace_write_line` meets its contract: write_line, with its answer in one number. Assumes nothing.
use borrow.Author.Rules.{rules}
use mathlib.Core.Path.{ap, ◌∙◌}
use Rattle.calls_packed.specs.Packed.{packed}
use Rattle.exports.proofs.texts.marlbrace_write_line.Goals as goal

pub returns : goal.returns
returns c = record { answer = c.write_line.result; call = rw c.net.ensures at c.write_line.ensures; number = c.packed.ensures ∙ ap packed c.of_written.ensures }
