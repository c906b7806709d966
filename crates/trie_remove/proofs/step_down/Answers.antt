-- `step_down` meets its contract: one law for each answer. Assumes nothing.
use mathlib.Core.Path.{ap, sym, ◌∙◌}
use native.Mathlib.Omega.{arith}
use Rattle.nets.specs.Networks.{next_as}
use Rattle.nodes.proofs.Views.{view-inner, branch-fit}
use Rattle.trie_remove.proofs.Descent.{nothing-more, nothing-here, full-here, inner-here}
use Rattle.trie_remove.proofs.step_down.Goals as goal

pub child_of-requires : goal.child_of-requires
child_of-requires c = let g = c.requires.1.3 in
    omega (arith, branch-fit g (view-inner _ _ _ (sym c.in-Inner.is ∙ c.look-v.ensures _ _ _ g)))

pub returns-in-None : goal.returns-in-None
returns-in-None c t rest u g = nothing-more _ t c.requires.0 (sym c.next-n.ensures ∙ ap next_as c.in-None.is)

pub returns-in-Nothing : goal.returns-in-Nothing
returns-in-Nothing c t rest u g = nothing-here _ t _ _ _ (sym c.next-n.ensures ∙ ap next_as c.in-Some.is) (sym c.in-Nothing.is ∙ c.look-v.ensures t rest u g)

pub returns-in-Leaf : goal.returns-in-Leaf
returns-in-Leaf c t rest u g = full-here _ t _ _ _ (sym c.next-n.ensures ∙ ap next_as c.in-Some.is) (sym c.in-Leaf.is ∙ c.look-v.ensures t rest u g)

pub returns-in-Inner : goal.returns-in-Inner
returns-in-Inner c t rest u g = inner-here _ t _ _ _ (sym c.next-n.ensures ∙ ap next_as c.in-Some.is) _ _ _ c.requires.0 (sym c.in-Inner.is ∙ c.look-v.ensures t rest u g) c.child_of.ensures
