-- `beginning::path` meets its contract, by its tests. Assumes nothing.
use mathlib.Core.Path.{refl, ◌∙◌}
use native.Mathlib.Omega.{arith}
use borrow.Author.Rules.{rules}
use Rattle.nets.proofs.Handing.{length-bits_left}
use Rattle.pool_state.proofs.Header.{is_header-header}
use Rattle.lookup.proofs.Beginnings.{path-plain, path-short, path-damaged, path-index}
use Rattle.lookup.proofs.beginning.path.Goals as goal

pub overflow_mul-tag : goal.overflow_mul-tag
overflow_mul-tag c = let p = c.requires in omega (arith, is_header-header _ p.0, p)

pub overflow_add-tag : goal.overflow_add-tag
overflow_add-tag c = let p = c.requires in omega (arith, is_header-header _ p.0, p)

pub overflow_add-tag-2 : goal.overflow_add-tag-2
overflow_add-tag-2 c = let p = c.requires in omega (arith, is_header-header _ p.0, p)

pub offset_bounds-w-set : goal.offset_bounds-w-set
offset_bounds-w-set c = let p = c.requires in omega (arith, is_header-header _ p.0, p)

pub bounds-w-set : goal.bounds-w-set
bounds-w-set c = let p = c.requires in omega (arith, is_header-header _ p.0, p)

pub returns-then-tag-eq0 : goal.returns-then-tag-eq0
returns-then-tag-eq0 c = c.from_root.ensures ∙ path-plain _ _ _ c.if-tag-eq0.true

pub returns-then-bits-lt8 : goal.returns-then-bits-lt8
returns-then-bits-lt8 c = let p = c.requires in
    c.from_root-then-bits-lt8.ensures ∙ path-short _ _ _ c.if-tag-eq0.false (omega (arith, c.if-bits-lt8.true, length-bits_left c.args.bits p.2))

pub bounds-w-4 : goal.bounds-w-4
bounds-w-4 c = let p = c.requires in omega (arith, is_header-header _ p.0, p)

pub returns-then-w-tag : goal.returns-then-w-tag
returns-then-w-tag c = let p = c.requires in
    path-damaged _ _ _ c.if-tag-eq0.false (omega (arith, c.if-bits-lt8.false, length-bits_left c.args.bits p.2)) c.if-w-tag.true

pub from_index-requires : goal.from_index-requires
from_index-requires c = let p = c.requires in
    (p.0, p.1, omega (arith, c.if-bits-lt8.false), p.2, omega (arith, c.if-tag-eq0.false), c.if-w-tag.false)

pub returns : goal.returns
returns c = let p = c.requires in
    c.from_index.ensures
    ∙ path-index _ _ _ c.if-tag-eq0.false (omega (arith, c.if-bits-lt8.false, length-bits_left c.args.bits p.2)) c.if-w-tag.false refl refl refl refl
