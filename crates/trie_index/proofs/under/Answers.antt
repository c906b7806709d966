-- `under` meets its contract. Assumes nothing.
use native.Mathlib.Omega.{arith}
use Rattle.trie_index.proofs.under.Goals as goal

pub overflow_add-root : goal.overflow_add-root
overflow_add-root c = omega (arith, c.requires.1 c.if-s-lt16.true)

pub word_at-requires : goal.word_at-requires
word_at-requires c = let p = c.requires in
    record { room = p.0; le_i = p.1 c.if-s-lt16.true }
