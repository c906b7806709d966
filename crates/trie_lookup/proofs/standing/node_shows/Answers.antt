-- `standing::node_shows` meets its contract, by its tests. Assumes nothing.
use mathlib.Core.Path.{sym, ◌∙◌}
use native.Mathlib.Omega.{arith}
use Rattle.trie_lookup.proofs.Openings.{node-walk, node-member, node-damaged}
use Rattle.trie_lookup.proofs.standing.node_shows.Goals as goal

pub returns-then-d-eq8 : goal.returns-then-d-eq8
returns-then-d-eq8 c = c.walk_down.ensures ∙ node-walk _ _ _ _ _ _ c.if-d-eq8.true (omega (arith, c.requires.3))

pub overflow_add-result : goal.overflow_add-result
overflow_add-result c = omega (arith, c.requires.5)

pub returns-then-word_at-eq0 : goal.returns-then-word_at-eq0
returns-then-word_at-eq0 c = node-member _ _ _ _ _ _ c.if-d-eq8.false (sym c.word_at.ensures ∙ c.if-word_at-eq0.true)

pub returns : goal.returns
returns c = node-damaged _ _ _ _ _ _ c.if-d-eq8.false (λ z. c.if-word_at-eq0.false (c.word_at.ensures ∙ z))
