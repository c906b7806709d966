-- `nodes_of` meets its contract. Assumes nothing.
use native.Mathlib.Omega.{arith}
use Rattle.trie_pour.proofs.Parts.{part-size, whole-nodes}
use Rattle.trie_pour.proofs.nodes_of.Goals as goal

pub returns-then-i-eq0 : goal.returns-then-i-eq0
returns-then-i-eq0 c w b t p = whole-nodes p c.if-i-eq0.true

pub overflow_sub-result : goal.overflow_sub-result
overflow_sub-result c = let (w, b, t, p) = c.requires in omega (arith, part-size p c.if-i-eq0.false)

pub returns : goal.returns
returns c w b t p = (part-size p c.if-i-eq0.false).1
