-- `standing::is_public` meets its contract, by the test of its closure. Assumes nothing.
use borrow.Author.Rules.{rules}
use Rattle.nets.specs.Tries.{list_of}
use Rattle.inner_nets.specs.Inner.{overlaps_one}
use Rattle.inner_nets.proofs.Numbered.{is_public-none}
use Rattle.trie_meets.proofs.standing.is_public.Goals as goal

pub returns : goal.returns
returns c o g t m = is_public-none _ _ _ (c.none_meets.ensures (overlaps_one (list_of t)) (λ s r few k. search rules))
