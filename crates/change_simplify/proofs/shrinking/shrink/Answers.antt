-- `shrinking::shrink` meets its contract, by the form. Assumes nothing.
use native.Mathlib.Omega.{arith}
use borrow.Author.Rules.{rules}
use Rattle.pool_state.proofs.Seen.{seen, figures}
use Rattle.change_simplify.proofs.Simplified.{seen-source, simplify-asks, simplify-few, shrunk-first, shrunk-second}
use Rattle.change_simplify.proofs.shrinking.shrink.Goals as goal

pub bounds-w-5 : goal.bounds-w-5
bounds-w-5 c = let (q, (k, g)) = c.requires in omega (arith, figures g)

pub shrink_trie-requires : goal.shrink_trie-requires
shrink_trie-requires c = let (q, (k, g)) = c.requires in (_, seen-source (seen g).1 q c.if-w-eq0.true c.most_levels-levels.ensures)

pub returns-then-w-eq0 : goal.returns-then-w-eq0
returns-then-w-eq0 c k g = shrunk-first g c.requires.0 c.if-w-eq0.true c.most_levels-levels.ensures c.shrink_trie.ensures

pub bounds-w-3 : goal.bounds-w-3
bounds-w-3 c = let (q, (k, g)) = c.requires in omega (arith, figures g)

pub simplify-requires : goal.simplify-requires
simplify-requires c = let (q, (k, g)) = c.requires in simplify-asks (seen g).1 q c.if-w-eq0.false

pub overflow_cast-result : goal.overflow_cast-result
overflow_cast-result c = let (q, (k, g)) = c.requires in
    omega (arith, simplify-few (seen g).1 q c.if-w-eq0.false c.simplify.ensures)

pub returns : goal.returns
returns c k g = shrunk-second g c.requires.0 c.if-w-eq0.false c.simplify.ensures
