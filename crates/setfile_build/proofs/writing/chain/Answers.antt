-- `writing::chain` meets its contract. The loop's invariant: what is still to be written completes it, and the bits still to come are at hand. Assumes nothing.
use Prim.Native.Nat.{◌-◌, ◌/◌, ◌^◌}
use native.Mathlib.Omega.{arith}
use lib.Dec.{eqb}
use Rattle.nodes.proofs.Chains.{bool_byte-le}
use Rattle.setfile_build.proofs.Chaining.{chaining-start, chaining-room, chaining-len, chaining-bit, chaining-turn, chaining-end}
use Rattle.setfile_build.proofs.Digits.{first_bit}
use Rattle.setfile_build.proofs.writing.chain.Goals as goal

pub loop-k-init : goal.loop-k-init
loop-k-init c = let r = c.requires in (chaining-start r, λ h. c.bits_from-rest.ensures (omega (arith, r.short)))

pub offset_bounds-path-k : goal.offset_bounds-path-k
offset_bounds-path-k c = omega (arith, chaining-room c.requires c.loop-k.invariant.0)

pub bounds-path-k : goal.bounds-path-k
bounds-path-k c = omega (arith, chaining-room c.requires c.loop-k.invariant.0)

pub overflow_add-bit : goal.overflow_add-bit
overflow_add-bit c = omega (arith, bool_byte-le (eqb (c.loop-k.rest / 2 ^ 63) 1))

pub store-requires : goal.store-requires
store-requires c = let r = chaining-room c.requires c.loop-k.invariant.0 in
    (r.0, (r.1.0, omega (arith, bool_byte-le (eqb (c.loop-k.rest / 2 ^ 63) 1))))

pub overflow_add-i : goal.overflow_add-i
overflow_add-i c = omega (arith, chaining-room c.requires c.loop-k.invariant.0)

pub loop-k-preserved : goal.loop-k-preserved
loop-k-preserved c = let r = c.requires in
    let t = c.loop-k-test.true in
    let z = chaining-bit r c.loop-k.invariant.0 t in
    let q = c.loop-k.invariant.1 t in (
      chaining-turn r c.loop-k.invariant.0 t _ (first_bit _ _ z (omega arith) q) c.store.ensures,
      λ h. c.bits_behind-rest.ensures (omega (arith, r.short)) q,
    )

pub offset_bounds-path-len : goal.offset_bounds-path-len
offset_bounds-path-len c = omega (arith, chaining-len c.requires)

pub bounds-path-len : goal.bounds-path-len
bounds-path-len c = chaining-len c.requires

pub store-requires-2 : goal.store-requires-2
store-requires-2 c = let r = chaining-room c.requires c.loop-k.invariant.0 in (r.0, (r.1.0, omega arith))

pub returns : goal.returns
returns c = chaining-end c.requires c.loop-k.invariant.0 c.loop-k-test.false c.store-2.ensures
