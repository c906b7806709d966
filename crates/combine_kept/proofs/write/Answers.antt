-- `write` meets its contract: the sources stand apart from the gap, and the result fills it. Assumes nothing.
use mathlib.Core.Path.{◌≡◌, sym, subst}
use Prim.Native.Nat.{◌+◌}
use native.Mathlib.Omega.{arith}
use borrow.Author.Rules.{rules}
use Rattle.nodes.specs.Words.{put}
use Rattle.pool_state.specs.Steps.{behind_at, Shiftable, spot_by, stride_in}
use Rattle.combine_kept.proofs.Gaps.{kept-inputs, kept-gap, kept-exact, kept-wrote}
use Rattle.combine_kept.proofs.write.Goals as goal

opened : (c : goal.After-fill-arg-1) → let a = c.args in
    c.shift_behind.new.w ≡ put a.pool.now (spot_by (stride_in a.pool.now) a.s.base (a.v.at + a.n)) (behind_at (stride_in a.pool.now) a.pool.now a.s.base a.v)
opened c = let a = c.args in
    subst (λ r. c.shift_behind.new.w ≡ put a.pool.now (spot_by r a.s.base (a.v.at + a.n)) (behind_at r a.pool.now a.s.base a.v))
    c.stride_of-stride.ensures c.shift_behind.ensures

opened-slice_known-5-1 : (c : goal.After-slice_known-5-1) → let a = c.args in
    c.shift_behind.new.w ≡ put a.pool.now (spot_by (stride_in a.pool.now) a.s.base (a.v.at + a.n)) (behind_at (stride_in a.pool.now) a.pool.now a.s.base a.v)
opened-slice_known-5-1 c = let a = c.args in
    subst (λ r. c.shift_behind.new.w ≡ put a.pool.now (spot_by r a.s.base (a.v.at + a.n)) (behind_at r a.pool.now a.s.base a.v))
    c.stride_of-stride.ensures c.shift_behind.ensures

pub bounds-pool-1 : goal.bounds-pool-1
bounds-pool-1 c = let (t, u, h) = c.requires in omega (arith, h.reads.long)

pub overflow_cast-family : goal.overflow_cast-family
overflow_cast-family c = let (t, u, h) = c.requires in omega (arith, h.reads.family)

pub bounds-pool-3 : goal.bounds-pool-3
bounds-pool-3 c = let (t, u, h) = c.requires in omega (arith, h.reads.long)

pub stride_of-stride-requires : goal.stride_of-stride-requires
stride_of-stride-requires c = let (t, u, h) = c.requires in h.reads.long

pub shift_behind-requires : goal.shift_behind-requires
shift_behind-requires c = let a = c.args in
    let (t, u, h) = c.requires in
    subst (λ r. Shiftable r a.pool.now a.s.base a.v a.n) (sym c.stride_of-stride.ensures) h.gap

pub moved-a-requires : goal.moved-a-requires
moved-a-requires c = let (t, u, h) = c.requires in omega (arith, h.reads.whole-t.within, h.few, h.reads.inputs.hold.few)

pub moved-c-requires : goal.moved-c-requires
moved-c-requires c = let (t, u, h) = c.requires in omega (arith, h.reads.whole-u.within, h.few, h.reads.inputs.hold.few)

pub fill-requires : goal.fill-requires
fill-requires c = let (t, u, h) = c.requires in
    let e = opened c in
    (t, u, kept-inputs h e c.moved-a.ensures c.moved-c.ensures, kept-gap h e, kept-exact h e)

pub returns : goal.returns
returns c t u h = let e = opened-slice_known-5-1 c in
    kept-wrote h e (c.fill.ensures t u (kept-inputs h e c.moved-a.ensures c.moved-c.ensures) (kept-gap h e) (kept-exact h e))
