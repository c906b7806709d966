-- `simplifying::write_over` meets its contract: nothing is written where the halves join, and else what they left and the branch point. Assumes nothing.
use native.Mathlib.Omega.{arith}
use Rattle.kept_simplify.proofs.Written.{fits_after, second-left, first-left, over-short, over-fits, over-joined, over-apart}
use Rattle.kept_simplify.proofs.simplifying.write_over.Goals as goal

pub joins-requires : goal.joins-requires
joins-requires c = let (v, p, l, r, d) = c.requires in over-short d

pub returns-then-joins : goal.returns-then-joins
returns-then-joins c v p l r d = over-joined d _ c.joins.ensures c.if-joins.true

pub overflow_add-o : goal.overflow_add-o
overflow_add-o c = let (v, p, l, r, d) = c.requires in omega (arith, over-fits d)

pub settle-requires : goal.settle-requires
settle-requires c = let (v, p, l, r, d) = c.requires in
    let g = over-fits d in
    (omega arith, omega arith, omega (arith, d.low), λ _. g.5)

pub overflow_add-o-2 : goal.overflow_add-o-2
overflow_add-o-2 c = let (v, p, l, r, d) = c.requires in omega (arith, over-fits d)

pub overflow_add-o-3 : goal.overflow_add-o-3
overflow_add-o-3 c = let (v, p, l, r, d) = c.requires in omega (arith, over-fits d)

pub settle-requires-2 : goal.settle-requires-2
settle-requires-2 c = let (v, p, l, r, d) = c.requires in
    let g = over-fits d in
    (omega arith, omega arith, omega (arith, d.low), λ _. fits_after _ _ _ (second-left d c.settle.ensures) g.6)

pub overflow_add-m : goal.overflow_add-m
overflow_add-m c = let (v, p, l, r, d) = c.requires in
    omega (arith, over-fits d)

pub write_node-requires : goal.write_node-requires
write_node-requires c = let (v, p, l, r, d) = c.requires in
    let g = over-fits d in
    record {
      one = d.one;
      fits = fits_after _ _ _ (first-left d _ c.settle-2.ensures) (fits_after _ _ _ (second-left d c.settle.ensures) g.7);
      low = omega (arith, d.low);
      few = omega arith;
      near = omega arith;
    }

pub overflow_add-result : goal.overflow_add-result
overflow_add-result c = let (v, p, l, r, d) = c.requires in
    omega (arith, over-fits d)

pub overflow_add-result-2 : goal.overflow_add-result-2
overflow_add-result-2 c = let (v, p, l, r, d) = c.requires in
    omega (arith, over-fits d)

pub returns : goal.returns
returns c v p l r d = over-apart d _ c.joins.ensures c.if-joins.false _ _ _ (second-left d c.settle.ensures) (first-left d _ c.settle-2.ensures)
    (c.write_node.ensures p d.path d.short)
