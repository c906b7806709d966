-- `shrink_trie` meets its contract: what is written, with the leaf that may be left, is the simplified trie. Assumes nothing.
use native.Mathlib.Omega.{arith}
use borrow.Author.Rules.{rules}
use Rattle.trie_blocks.proofs.Blocks.{segment-asks}
use Rattle.change_simplify.proofs.Simplified.{settle-fits, end_fits, shrunk}
use Rattle.change_simplify.proofs.shrinking.shrink_trie.Goals as goal

pub next_join-next-requires : goal.next_join-next-requires
next_join-next-requires c = segment-asks c.requires.1.here

pub simplify-x-requires : goal.simplify-x-requires
simplify-x-requires c = (c.requires, c.next_join-next.ensures)

pub settle-requires : goal.settle-requires
settle-requires c = let (t, g) = c.requires in (g.one, settle-fits g (c.simplify-x.ensures t g))

pub overflow_sub-result : goal.overflow_sub-result
overflow_sub-result c = let (t, g) = c.requires in omega (arith, end_fits g (c.simplify-x.ensures t g) c.end_of.ensures)

pub overflow_cast-result : goal.overflow_cast-result
overflow_cast-result c = let (t, g) = c.requires in omega (arith, end_fits g (c.simplify-x.ensures t g) c.end_of.ensures)

pub returns : goal.returns
returns c t g = shrunk g (c.simplify-x.ensures t g) c.end_of.ensures c.settle.ensures
