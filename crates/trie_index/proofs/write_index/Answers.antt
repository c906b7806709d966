-- `write_index` meets its contract. The loop's invariant: what is left to write completes the index. Assumes nothing.
use Rattle.trie_index.proofs.Words.{writing_start, writing-end, writing-on}
use Rattle.trie_index.proofs.write_index.Goals as goal

pub loop-v-init : goal.loop-v-init
loop-v-init c = writing_start _ _ _ _ _

pub loop-v-preserved : goal.loop-v-preserved
loop-v-preserved c = let lt = c.loop-v-test.true in
    writing-on c.loop-v.invariant lt (λ t g. c.top_words-words.ensures t g _ lt)

pub shape_of-w : goal.shape_of-w
shape_of-w c = c.loop-v.invariant.long

pub returns : goal.returns
returns c = writing-end c.loop-v.invariant c.loop-v-test.false
