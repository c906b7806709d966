-- `preorder::half` meets its contract, by its test. Assumes nothing.
use Rattle.trie_paths.proofs.preorder.half.Goals as goal

pub returns-then-y-eq2 : goal.returns-then-y-eq2
returns-then-y-eq2 c f p e h = record { second = λ _. h; first = λ n. absurd (n c.if-y-eq2.true) }

pub returns : goal.returns
returns c f p e h = record { second = λ q. absurd (c.if-y-eq2.false q); first = λ _. c.first.ensures f p e }
