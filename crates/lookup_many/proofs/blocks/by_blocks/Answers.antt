-- `blocks::by_blocks` meets its contract. The loop's invariant: what is written are the answers up to i. Assumes nothing.
use mathlib.Core.Path.{refl}
use Prim.Native.Nat.{◌-◌, ◌/◌}
use lib.ListN.{length}
use native.Mathlib.Omega.{arith}
use borrow.Author.Rules.{rules}
use Rattle.pool_state.proofs.Header.{is_header-header}
use Rattle.lookup_many.specs.Rules.{asked_of}
use Rattle.lookup_many.proofs.Rows.{fill_none, FilledTo, filled-start, filled_next}
use Rattle.lookup_many.proofs.Ending.{seated}
use Rattle.lookup_many.proofs.blocks.by_blocks.Goals as goal

pub bounds-w-2 : goal.bounds-w-2
bounds-w-2 c = let h = c.requires in omega (arith, h.1, is_header-header _ h.0)

pub overflow_cast-b : goal.overflow_cast-b
overflow_cast-b c = let h = c.requires in omega (arith, h.1, is_header-header _ h.0)

pub overflow_mul-b : goal.overflow_mul-b
overflow_mul-b c = let h = c.requires in omega (arith, h.1, is_header-header _ h.0)

pub overflow_add-b : goal.overflow_add-b
overflow_add-b c = let h = c.requires in omega (arith, h.1, is_header-header _ h.0)

pub bounds-w-3 : goal.bounds-w-3
bounds-w-3 c = let h = c.requires in omega (arith, h.1, is_header-header _ h.0)

pub overflow_mul-root : goal.overflow_mul-root
overflow_mul-root c = let h = c.requires in omega (arith, h.1, is_header-header _ h.0)

pub overflow_add-root : goal.overflow_add-root
overflow_add-root c = let h = c.requires in omega (arith, h.1, is_header-header _ h.0)

pub offset_bounds-w-set : goal.offset_bounds-w-set
offset_bounds-w-set c = let h = c.requires in omega (arith, h.1, is_header-header _ h.0)

pub bounds-w-set : goal.bounds-w-set
bounds-w-set c = let h = c.requires in omega (arith, h.1, is_header-header _ h.0)

pub overflow_mul-tag : goal.overflow_mul-tag
overflow_mul-tag c = let h = c.requires in omega (arith, h.1, is_header-header _ h.0)

pub overflow_add-tag : goal.overflow_add-tag
overflow_add-tag c = let h = c.requires in omega (arith, h.1, is_header-header _ h.0)

pub overflow_add-tag-2 : goal.overflow_add-tag-2
overflow_add-tag-2 c = let h = c.requires in omega (arith, h.1, is_header-header _ h.0)

pub offset_bounds-w-set-2 : goal.offset_bounds-w-set-2
offset_bounds-w-set-2 c = let h = c.requires in omega (arith, h.1, is_header-header _ h.0)

pub bounds-w-set-2 : goal.bounds-w-set-2
bounds-w-set-2 c = let h = c.requires in omega (arith, h.1, is_header-header _ h.0)

pub bounds-w-5 : goal.bounds-w-5
bounds-w-5 c = let h = c.requires in omega (arith, h.1, is_header-header _ h.0)

pub returns-then-w-ne0 : goal.returns-then-w-ne0
returns-then-w-ne0 c = (omega arith, fill_none _ _ _)

pub returns-then-tag-ne0 : goal.returns-then-tag-ne0
returns-then-tag-ne0 c = (omega arith, fill_none _ _ _)

pub returns-then-root-eq0 : goal.returns-then-root-eq0
returns-then-root-eq0 c = (omega arith, fill_none _ _ _)

pub returns-then-n-root : goal.returns-then-n-root
returns-then-n-root c = (omega arith, fill_none _ _ _)

pub loop-i-init : goal.loop-i-init
loop-i-init c = filled-start _ _ _

pub block-requires : goal.block-requires
block-requires c = let h = c.requires in (
  seated h.0 h.1 c.if-w-ne0.false c.if-tag-ne0.false refl refl c.if-root-eq0.false c.if-n-root.false h.2,
  record { queries = omega (arith, c.min-e.ensures, c.loop-i-test.true); answers = omega (arith, c.loop-i.invariant.same, h.3) },
  omega (arith, c.min-e.ensures),
)

pub overflow_add-i : goal.overflow_add-i
overflow_add-i c = search (rules, c.min-e.ensures, c.loop-i-test.true)

pub loop-i-smaller : goal.loop-i-smaller
loop-i-smaller c = omega (arith, c.min-e.ensures, c.loop-i-test.true)

pub loop-i-preserved : goal.loop-i-preserved
loop-i-preserved c = filled_next _ _ _ _ _ _ _ c.loop-i.invariant (omega (arith, c.min-e.ensures, c.loop-i-test.true)) c.block.ensures

pub shape_of-answers : goal.shape_of-answers
shape_of-answers c = c.loop-i.invariant.same

pub returns : goal.returns
returns c = let i = c.loop-i.invariant in (i.le, i.is)
