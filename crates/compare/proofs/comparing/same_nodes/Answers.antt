-- `comparing::same_nodes` meets its contract: the words of the nodes are there. Assumes nothing.
use native.Mathlib.Omega.{arith}
use borrow.Author.Rules.{rules}
use Rattle.compare.proofs.Blocks.{nodes-first, nodes-other}
use Rattle.compare.proofs.comparing.same_nodes.Goals as goal

pub overflow_mul-s : goal.overflow_mul-s
overflow_mul-s c = omega (arith, (nodes-first c.requires).1)

pub overflow_add-b : goal.overflow_add-b
overflow_add-b c = omega (arith, (nodes-first c.requires).1)

pub overflow_mul-s-2 : goal.overflow_mul-s-2
overflow_mul-s-2 c = omega (arith, (nodes-other c.requires).1)

pub overflow_add-b-2 : goal.overflow_add-b-2
overflow_add-b-2 c = omega (arith, (nodes-other c.requires).1)

pub overflow_mul-s-3 : goal.overflow_mul-s-3
overflow_mul-s-3 c = omega (arith, (nodes-other c.requires).1)

pub same_words-requires : goal.same_words-requires
same_words-requires c = ((nodes-first c.requires).0, (nodes-other c.requires).0)
