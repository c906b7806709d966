-- `emitting::settle` meets its contract, by its test. Assumes nothing.
use mathlib.Core.Path.{sym}
use Rattle.nodes.proofs.Put.{put-nil}
use Rattle.trie_emit.proofs.Answers.{rest-none}
use Rattle.trie_emit.proofs.emitting.settle.Goals as goal

pub returns-in_default : goal.returns-in_default
returns-in_default c = rw (rest-none c.args.x c.in_default.not-Full) (sym (put-nil _ _))
