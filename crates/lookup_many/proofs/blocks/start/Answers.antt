-- `blocks::start` meets its contract. The loop's invariant: the walks up to a stand at their beginning. Assumes nothing.
use mathlib.Core.Path.{◌≡◌}
use Prim.Native.Nat.{◌-◌, ◌≤◌}
use native.Mathlib.Omega.{arith}
use borrow.Author.Rules.{rules}
use Rattle.trie_lanes.specs.Lanes.{Live}
use Rattle.lookup_many.specs.Lanes.{Started}
use Rattle.lookup_many.proofs.Ending.{started_none, started-next, live-next}
use Rattle.lookup_many.proofs.blocks.start.Goals as goal

pub loop-a-init : goal.loop-a-init
loop-a-init c = let h = c.requires in (omega arith, started_none h.2, record { wide = h.3; few = omega arith; each = λ j lt. absurd (omega arith) })

pub overflow_add-i : goal.overflow_add-i
overflow_add-i c = search (rules, c.loop-a-test.true, c.requires.0)

pub query_at-requires : goal.query_at-requires
query_at-requires c = omega (arith, c.loop-a-test.true, c.requires.0)

pub keep-requires : goal.keep-requires
keep-requires c = (omega (arith, c.loop-a-test.true, c.requires.1), c.loop-a.invariant.1.wide)

pub bounds-live-a : goal.bounds-live-a
bounds-live-a c = omega (arith, c.loop-a.invariant.2.wide, c.loop-a-test.true, c.requires.1)

pub loop-a-preserved : goal.loop-a-preserved
loop-a-preserved c = let i = c.loop-a.invariant in (
  omega (arith, c.loop-a-test.true),
  started-next _ i.1 (omega (arith, c.loop-a-test.true, c.requires.1)) (rw c.query_at.ensures at c.lane-l.ensures) c.keep.ensures,
  live-next _ _ i.2 (omega (arith, c.loop-a-test.true, c.requires.1)),
)

pub returns : goal.returns
returns c = let i = c.loop-a.invariant in
    let q : c.loop-a.a ≡ c.args.e = omega (arith, i.0, c.loop-a-test.false) in
    (rw q at i.1, rw q at i.2)
