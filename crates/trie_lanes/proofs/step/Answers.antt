-- `step` meets its contract: the walk stays, or it goes one node on. Assumes nothing.
use mathlib.Core.Path.{refl, sym, ap, ◌∙◌}
use native.Mathlib.Omega.{arith}
use lib.ListN.{get_or}
use Rattle.nets.specs.Networks.{next_as, next_of}
use Rattle.trie_lanes.proofs.Going.{goes-stay, Steps, goes_step}
use Rattle.trie_lanes.proofs.step.Goals as goal

steps : (c : goal.Else-b-n) →
    let a = c.args in
    Steps a.w.now a.b a.n a.l (get_or a.w.now a.l.p 0) c.turn-c.result c.in-Some.bit c.in-Some.later
steps c = record {
  on = c.requires.1;
  is = refl;
  before = c.if-b-n.false;
  next = sym (c.next-next.ensures ∙ ap next_of c.of_word.ensures) ∙ ap next_as c.in-Some.is;
  by = c.turn-c.ensures;
  some = c.if-c-eq0.false;
}

pub returns-then-c-eq0 : goal.returns-then-c-eq0
returns-then-c-eq0 c = goes-stay _ _ _ _ c.requires.1

pub overflow_cast-x : goal.overflow_cast-x
overflow_cast-x c = omega (arith, c.type_inv.w c.args.l.p)

pub overflow_add-p : goal.overflow_add-p
overflow_add-p c = omega (arith, c.requires.0.low, c.requires.0.few, c.requires.1.within, c.type_inv.w c.args.l.p)

pub returns-then-b-n : goal.returns-then-b-n
returns-then-b-n c = goes-stay _ _ _ _ c.requires.1

pub returns-in-None : goal.returns-in-None
returns-in-None c = goes-stay _ _ _ _ c.requires.1

pub returns-else-b-n : goal.returns-else-b-n
returns-else-b-n c = goes_step (steps c)
