-- `plan_for` meets its contract, by what is seen of the trie. Assumes nothing.
use mathlib.Core.Path.{sym, ◌∙◌}
use Rattle.kept_steps.proofs.Views.{view-none, view-leaf, view-inner}
use Rattle.kept_plan.proofs.Plans.{way-string, way_end, way-more, way-some, way-steps, flat-end, flat-none, member-stays}
use Rattle.kept_plan.proofs.plan_for.Goals as goal

pub returns-then-d-q : goal.returns-then-d-q
returns-then-d-q c u p r t rest g h d = flat-end _ p t _ r (way_end h (d ∙ c.if-d-q.true))

pub look-v-requires : goal.look-v-requires
look-v-requires c = let (u, p, r, t, rest, g, h, d) = c.requires in (u, p, t, rest, g, d)

pub returns-then-into : goal.returns-then-into
returns-then-into c u p r t rest g h d = rw c.if-into.true (member-stays t r (view-leaf _ t (sym c.in-Leaf.is ∙ c.look-v.ensures u p t rest g d)) (way-some h (λ e. c.if-d-q.false (sym d ∙ e))))

pub bit_at-requires : goal.bit_at-requires
bit_at-requires c = let (u, p, r, t, rest, g, h, d) = c.requires in
    (way-string h, rw d at (way-more h (λ e. c.if-d-q.false (sym d ∙ e))))

pub inward-requires : goal.inward-requires
inward-requires c = let (u, p, r, t, rest, g, h, d) = c.requires in (
  u,
  p,
  r,
  t,
  rest,
  g,
  view-inner _ _ _ t (sym c.in-Inner.is ∙ c.look-v.ensures u p t rest g d),
  way-steps h (λ e. c.if-d-q.false (sym d ∙ e)) _ (rw (← d) at c.bit_at.ensures),
)

pub returns-in-Nothing : goal.returns-in-Nothing
returns-in-Nothing c u p r t rest g h d = flat-none _ p t _ r (view-none _ t (sym c.in-Nothing.is ∙ c.look-v.ensures u p t rest g d))

pub returns-else-into : goal.returns-else-into
returns-else-into c u p r t rest g h d = (view-leaf _ t (sym c.in-Leaf.is ∙ c.look-v.ensures u p t rest g d), c.if-into.false, way-some h (λ e. c.if-d-q.false (sym d ∙ e)))

pub returns-in-Inner : goal.returns-in-Inner
returns-in-Inner c u p r t rest g h d = c.inward.ensures u p r t rest g (view-inner _ _ _ t (sym c.in-Inner.is ∙ c.look-v.ensures u p t rest g d))
    (way-steps h (λ e. c.if-d-q.false (sym d ∙ e)) _ (rw (← d) at c.bit_at.ensures))
