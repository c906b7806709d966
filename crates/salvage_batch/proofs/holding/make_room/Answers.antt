-- `holding::make_room` meets its contract: there is room, or squeezing makes it, or what is held is cut in half. Assumes nothing.
use mathlib.Core.Path.{refl}
use native.Mathlib.Omega.{arith}
use Rattle.salvage_batch.proofs.Thinnings.{kept_same}
use Rattle.salvage_batch.proofs.Holdings.{holds-stands, squeezed-kept, holds-squeezed, cut_fits, holds-cut}
use Rattle.salvage_batch.proofs.holding.make_room.Goals as goal

pub returns-then-h-most : goal.returns-then-h-most
returns-then-h-most c = record { kept = kept_same _ _ _; count_lt_most = c.if-h-most.true; holds = λ S a o. o }

pub squeeze-n-requires : goal.squeeze-n-requires
squeeze-n-requires c = holds-stands c.requires.2

pub returns-then-n-half : goal.returns-then-n-half
returns-then-n-half c = let o = c.requires.2 in
    record { kept = squeezed-kept o c.squeeze-n.ensures; count_lt_most = omega (arith, c.if-n-half.true, o.room.two); holds = λ S a p. holds-squeezed p c.squeeze-n.ensures _ refl refl }

pub overflow_sub-half : goal.overflow_sub-half
overflow_sub-half c = let o = c.requires.2 in omega (arith, o.room.two)

pub entry-net-requires : goal.entry-net-requires
entry-net-requires c = let o = c.requires.2 in
    cut_fits o c.squeeze-n.ensures (λ i. omega (arith, c.slice_known-2-1.given i)) (omega (arith, o.room.two)) (omega (arith, c.if-n-half.false))

pub returns : goal.returns
returns c = let o = c.requires.2 in
    record {
      kept = squeezed-kept o c.squeeze-n.ensures;
      count_lt_most = omega (arith, o.room.two);
      holds = λ S a p. holds-cut p c.squeeze-n.ensures (λ i. omega (arith, c.slice_known-2-1.given i)) (omega (arith, o.room.two)) (omega (arith, c.if-n-half.false)) _ _ refl refl
          c.entry-net.ensures.value;
    }
