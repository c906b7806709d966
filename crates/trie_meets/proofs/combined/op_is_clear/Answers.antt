-- `combined::op_is_clear` meets its contract, by the test of its closure. Assumes nothing.
use borrow.Author.Rules.{rules}
use Rattle.nets.specs.Tries.{list_of}
use Rattle.inner_nets.specs.Inner.{overlaps_one}
use Rattle.inner_nets.proofs.Numbered.{is_public-none}
use Rattle.trie_emit.specs.Combine.{op_on}
use Rattle.trie_meets.proofs.combined.op_is_clear.Goals as goal

pub returns : goal.returns
returns c t u i = is_public-none _ _ _ (c.none_meets.ensures (overlaps_one (list_of (op_on c.args.op c.args.fuel t u))) (λ s r few k. search rules))
