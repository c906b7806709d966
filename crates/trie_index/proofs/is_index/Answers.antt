-- `is_index` meets its contract. The loop's invariant: the words that are left to compare decide. Assumes nothing.
use Rattle.trie_index.proofs.Words.{left-start, left-off, left-on, left_end}
use Rattle.trie_index.proofs.is_index.Goals as goal

pub loop-v-init : goal.loop-v-init
loop-v-init c = left-start _ _ _ _ _

pub returns-then-w-p : goal.returns-then-w-p
returns-then-w-p c = let lt = c.loop-v-test.true in
    left-off c.loop-v.invariant lt (λ t g. c.top_words-words.ensures t g _ lt) c.if-w-p.true

pub loop-v-preserved : goal.loop-v-preserved
loop-v-preserved c = let lt = c.loop-v-test.true in
    left-on c.loop-v.invariant lt (λ t g. c.top_words-words.ensures t g _ lt) c.if-w-p.false

pub returns : goal.returns
returns c = left_end c.loop-v.invariant c.loop-v-test.false
