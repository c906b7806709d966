-- `words::has_bit_past` meets its contract: a bit past the length is set where clearing changes one of the words. Assumes nothing.
use mathlib.Core.Path.{◌≡◌}
use Prim.Native.Nat.{◌-◌, ◌*◌, ◌/◌, ◌^◌}
use native.Mathlib.Omega.{arith}
use borrow.Author.Tests.{eq-eqb, ne_eqb}
use Rattle.nets.specs.Networks.{has_bit_past}
use Rattle.nets.proofs.TwoWords.{value-past}
use Rattle.nets.proofs.words.has_bit_past.Goals as goal

high : (c : goal.Then-keep-n) → let k = c.past-k.result - 64 in c.keep.result ≡ c.args.n.hi / 2 ^ k * 2 ^ k
high c = cc

high-struct_known-else-keep-n-1 : (c : goal.After-struct_known-else-keep-n-1) → let k = c.past-k.result - 64 in c.keep.result ≡ c.args.n.hi / 2 ^ k * 2 ^ k
high-struct_known-else-keep-n-1 c = cc

pub returns-then-keep-n : goal.returns-then-keep-n
unfolding has_bit_past
returns-then-keep-n c = let n = c.args.n in
    rw (← c.past-k.ensures, value-past n.hi n.lo c.past-k.result (omega arith), ← high c, ne_eqb c.keep.result n.hi c.if-keep-n.true)

pub returns-else-keep-n : goal.returns-else-keep-n
unfolding has_bit_past
returns-else-keep-n c = let n = c.args.n in
    let e = eq-eqb c.keep.result n.hi c.if-keep-n.false in
    rw (← c.past-k.ensures, value-past n.hi n.lo c.past-k.result (omega arith), ← high-struct_known-else-keep-n-1 c, e, c.keep-else-keep-n.ensures)
