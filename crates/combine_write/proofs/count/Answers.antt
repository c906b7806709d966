-- `count` meets its contract: a copy has the nodes of its source. Assumes nothing.
use mathlib.Core.Path.{sym, ap, ◌∙◌}
use borrow.Author.Rules.{rules}
use Rattle.nets.specs.Tries.{size}
use Rattle.combine_write.proofs.Copied.{copied}
use Rattle.combine_write.proofs.count.Goals as goal

pub returns-then-is_copy : goal.returns-then-is_copy
returns-then-is_copy c v t u h = h.nodes-t ∙ ap size (sym (copied h c.args.op (sym c.is_copy.ensures ∙ c.if-is_copy.true)))

pub op_size-requires : goal.op_size-requires
op_size-requires c = let (v, t, u, h) = c.requires in (t, u, h.inputs)

pub returns : goal.returns
returns c v t u h = c.op_size.ensures t u h.inputs
