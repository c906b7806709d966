-- `relink` meets its contract. Assumes nothing.
use native.Mathlib.Omega.{arith}
use borrow.Author.Tests.{not-true, not-false, ne_eqb}
use mathlib.Core.Path.{refl}
use mathlib.Core.List.{[]}
use Rattle.kept_acts.proofs.Acted.{relink-edge, relink-node}
use Rattle.kept_acts.proofs.relink.Goals as goal

pub returns-then-not-bit : goal.returns-then-not-bit
returns-then-not-bit c = let a = c.args in
    rw (not-true a.bit c.if-not-bit.true-raw) (refl, λ p is le. refl)

pub returns-then-a-i : goal.returns-then-a-i
returns-then-a-i c = let a = c.args in
    rw (not-false a.bit c.if-not-bit.false-raw) (
      (relink-edge a.family a.w.now a.b a.i a.a a.m a.e a.z [] c.if-a-i.true).0,
      λ p is le. (relink-edge a.family a.w.now a.b a.i a.a a.m a.e a.z p c.if-a-i.true).1,
    )

pub overflow_sub-z : goal.overflow_sub-z
overflow_sub-z c = omega (arith, c.requires.order)

pub write_node-requires : goal.write_node-requires
write_node-requires c = record {
  one = c.requires.one;
  fits = c.requires.fits (rw (not-false c.args.bit c.if-not-bit.false-raw, ne_eqb c.args.a c.args.i c.if-a-i.false));
  low = c.requires.low;
  few = omega (arith, c.requires.order);
  near = omega (arith, c.requires.order);
}

pub overflow_sub-result : goal.overflow_sub-result
overflow_sub-result c = omega (arith, c.requires.order)

pub overflow_add-result : goal.overflow_add-result
overflow_add-result c = omega (arith, c.requires.order)

pub returns : goal.returns
returns c = let a = c.args in
    let no = c.if-a-i.false in
    rw (not-false a.bit c.if-not-bit.false-raw) (
      (relink-node a.family a.w.now a.b a.i a.a a.m a.e a.z [] no refl).0,
      λ p is le. (relink-node a.family a.w.now a.b a.i a.a a.m a.e a.z p no (c.write_node.ensures p is le)).1,
    )
