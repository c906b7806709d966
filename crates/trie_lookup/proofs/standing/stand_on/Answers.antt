-- `standing::stand_on` meets its contract, by its tests. Assumes nothing.
use mathlib.Core.Path.{◌∙◌}
use native.Mathlib.Omega.{arith}
use Rattle.trie_lookup.proofs.Openings.{word-under, word_over, word-node, word_low, word-high, word-absent}
use Rattle.trie_lookup.proofs.standing.stand_on.Goals as goal

pub returns-then-i-lt1 : goal.returns-then-i-lt1
returns-then-i-lt1 c = word-under _ _ _ _ _ _ c.if-d-le8.true c.if-i-lt1.true

pub returns-then-n-i : goal.returns-then-n-i
returns-then-n-i c = word_over _ _ _ _ _ _ c.if-d-le8.true c.if-n-i.true

pub overflow_cast-d : goal.overflow_cast-d
overflow_cast-d c = omega (arith, c.if-d-le8.true)

pub overflow_cast-i-then-d-le8-2 : goal.overflow_cast-i-then-d-le8-2
overflow_cast-i-then-d-le8-2 c = omega (arith, c.if-n-i.false, c.requires.0.few)

pub node_shows-requires : goal.node_shows-requires
node_shows-requires c = let p = c.requires in (p.0, omega (arith, c.if-i-lt1.false), c.if-n-i.false, p.1, p.2, c.if-d-le8.true)

pub returns-then-d-le8 : goal.returns-then-d-le8
returns-then-d-le8 c = c.node_shows.ensures ∙ word-node _ _ _ _ _ _ c.if-d-le8.true (omega (arith, c.if-i-lt1.false)) c.if-n-i.false

pub returns-then-x-lt16 : goal.returns-then-x-lt16
returns-then-x-lt16 c = word_low _ _ _ _ _ _ c.if-d-le8.false c.if-x-lt16.true

pub returns-then-x-gt24 : goal.returns-then-x-gt24
returns-then-x-gt24 c = word-high _ _ _ _ _ _ c.if-d-le8.false c.if-x-gt24.true

pub overflow_cast-result : goal.overflow_cast-result
overflow_cast-result c = omega (arith, c.if-x-gt24.false)

pub returns : goal.returns
returns c = word-absent _ _ _ _ _ _ c.if-d-le8.false c.if-x-lt16.false c.if-x-gt24.false
