-- `emitting::top` meets its contract, by its tests. Assumes nothing.
use native.Mathlib.Omega.{arith}
use mathlib.Core.Path.{sym}
use Rattle.nodes.proofs.Put.{put-nil}
use Rattle.kept_emit.proofs.Answered.{top-low, top-high, top-both}
use Rattle.kept_emit.proofs.emitting.top.Goals as goal

pub returns-then-m-o : goal.returns-then-m-o
returns-then-m-o c p is le = rw (top-low _ p _ _ _ c.if-m-o.true) (sym (put-nil _ _))

pub returns-then-e-m : goal.returns-then-e-m
returns-then-e-m c p is le = rw (top-high _ p _ _ _ c.if-m-o.false c.if-e-m.true) (sym (put-nil _ _))

pub write_node-requires : goal.write_node-requires
write_node-requires c = let h = c.requires.0 c.if-m-o.false c.if-e-m.false in
    record { one = omega arith; fits = h.1; low = omega arith; few = omega arith; near = omega arith }

pub returns : goal.returns
returns c p is le = rw (top-both _ p _ _ _ c.if-m-o.false c.if-e-m.false)
    (c.write_node.ensures p is le)
