-- `relinking::reindex` meets its contract, by the tag. Assumes nothing.
use mathlib.Core.Path.{refl}
use native.Mathlib.Omega.{arith}
use borrow.Author.Rules.{rules}
use Rattle.pool_state.proofs.Reindexed.{index-room, index-rooted, index-plain, index-fits, index-written}
use Rattle.pool_change.proofs.relinking.reindex.Goals as goal

pub overflow_mul-tag : goal.overflow_mul-tag
overflow_mul-tag c = omega (arith, c.requires)

pub overflow_add-tag : goal.overflow_add-tag
overflow_add-tag c = omega (arith, c.requires)

pub overflow_add-tag-2 : goal.overflow_add-tag-2
overflow_add-tag-2 c = omega (arith, c.requires)

pub offset_bounds-w-set : goal.offset_bounds-w-set
offset_bounds-w-set c = omega (arith, c.requires)

pub bounds-w-set : goal.bounds-w-set
bounds-w-set c = omega (arith, c.requires)

pub returns-then-tag-eq0 : goal.returns-then-tag-eq0
returns-then-tag-eq0 c = index-plain c.requires c.if-tag-eq0.true

pub bounds-w-2 : goal.bounds-w-2
bounds-w-2 c = omega (arith, c.requires)

pub overflow_cast-b : goal.overflow_cast-b
overflow_cast-b c = omega (arith, c.requires)

pub overflow_mul-b : goal.overflow_mul-b
overflow_mul-b c = omega (arith, c.requires)

pub overflow_add-b : goal.overflow_add-b
overflow_add-b c = omega (arith, c.requires)

pub bounds-w-3 : goal.bounds-w-3
bounds-w-3 c = omega (arith, c.requires)

pub overflow_cast-p : goal.overflow_cast-p
overflow_cast-p c = omega (arith, c.requires, c.if-tag-eq0.false)

pub overflow_mul-p : goal.overflow_mul-p
overflow_mul-p c = omega (arith, c.requires, c.if-tag-eq0.false)

pub overflow_add-p : goal.overflow_add-p
overflow_add-p c = omega (arith, c.requires, c.if-tag-eq0.false)

pub overflow_cast-p-2 : goal.overflow_cast-p-2
overflow_cast-p-2 c = omega (arith, c.requires, c.if-tag-eq0.false)

pub overflow_sub-p : goal.overflow_sub-p
overflow_sub-p c = omega (arith, c.requires, c.if-tag-eq0.false)

pub overflow_mul-p-2 : goal.overflow_mul-p-2
overflow_mul-p-2 c = omega (arith, c.requires, c.if-tag-eq0.false)

pub overflow_add-p-2 : goal.overflow_add-p-2
overflow_add-p-2 c = omega (arith, c.requires, c.if-tag-eq0.false)

pub write_index-requires : goal.write_index-requires
write_index-requires c = let h = c.requires in
    record { room = (index-room h, omega (arith, index-fits h c.if-tag-eq0.false, c.if-tag-eq0.false), omega (arith, h, c.if-tag-eq0.false)); rooted = rw c.own_root.ensures (index-rooted h c.if-tag-eq0.false) }

pub returns : goal.returns
returns c = index-written c.requires c.if-tag-eq0.false c.own_root.ensures refl (omega (arith, c.if-tag-eq0.false)) c.write_index.ensures
