-- `combining::op_size` meets its contract: the end that is foreseen for a result that begins at 0. Assumes nothing.
use mathlib.Core.Path.{◌∙◌}
use native.Mathlib.Nat.{zero-add}
use Rattle.trie_emit.proofs.Answers.{end_is}
use Rattle.trie_emit.proofs.combining.op_size.Goals as goal

pub returns : goal.returns
returns c t u s = c.end_of.ensures ∙ end_is _ _ _ (c.foresee-x.ensures 0 t u s) ∙ zero-add _
