-- `joined::length` meets its contract. The loop's invariant: n bytes up to the group i, and what is left makes all. Assumes nothing.
use mathlib.Core.Path.{◌≡◌, refl, ap, sym}
use Prim.Native.Nat.{◌+◌, ◌-◌}
use native.Mathlib.Omega.{arith}
use lib.ListN.{length}
use Rattle.text_ipv6_write.proofs.Colons.{counted_start, counted_step, counted-all, joined-none}
use Rattle.text_ipv6_write.proofs.joined.length.Goals as goal

eight : (c : goal.Then-to-from) → length c.args.g ≡ 8
eight c = c.well_formed.0.1.0.1

eight-length-n : (c : goal.After-length-n) → length c.args.g ≡ 8
eight-length-n c = c.well_formed.0.1.0.1

eight-length : (c : goal.After-length) → length c.args.g ≡ 8
eight-length c = c.well_formed.0.1.0.1

eight-loop-i : (c : goal.After-loop-i) → length c.args.g ≡ 8
eight-loop-i c = c.well_formed.0.1.0.1

pub returns-then-to-from : goal.returns-then-to-from
returns-then-to-from c = let e = ap length (joined-none c.args.g c.args.from c.args.to c.if-to-from.true (omega (arith, eight c))) in
    record { value = sym e; upper_bound = omega arith }

pub loop-i-init : goal.loop-i-init
loop-i-init c = counted_start c.args.g c.args.from c.args.to (omega (arith, eight-length-n c)) c.length-n.result c.if-to-from.false c.length-n.ensures.value

pub offset_bounds-g-i : goal.offset_bounds-g-i
offset_bounds-g-i c = omega (arith, c.loop-i.invariant)

pub bounds-g-i : goal.bounds-g-i
bounds-g-i c = omega (arith, c.loop-i.invariant)

pub overflow_add-n : goal.overflow_add-n
overflow_add-n c = omega (arith, c.length.ensures.upper_bound)

pub overflow_add-n-in-loop-i : goal.overflow_add-n-in-loop-i
overflow_add-n-in-loop-i c = omega (arith, c.length.ensures.upper_bound, c.loop-i.invariant)

pub loop-i-preserved : goal.loop-i-preserved
loop-i-preserved c = let k = c.length.result in
    counted_step c.args.g c.args.from c.args.to (omega (arith, eight-length c)) c.loop-i.n c.loop-i.i k (c.loop-i.n + (1 + k))
    c.loop-i-test.true c.loop-i.invariant c.length.ensures.value refl

pub returns : goal.returns
returns c = record { value = counted-all c.args.g c.args.from c.args.to (omega (arith, eight-loop-i c)) c.loop-i.n c.loop-i.i c.loop-i-test.false c.loop-i.invariant; upper_bound = (omega (arith, c.loop-i.invariant)) }
