-- `index_after` meets its contract, by its tests. Assumes nothing.
use native.Mathlib.Omega.{arith}
use mathlib.Core.Path.{refl}
use borrow.Author.Rules.{rules}
use Rattle.pool_state.proofs.Header.{IsHeader, header-room}
use Rattle.pool_check.proofs.Indexes.{read-header, after-plain, after-off, after-few, after-wrong, after-right, after-rooted}
use Rattle.pool_check.proofs.index_after.Goals as goal

pub overflow_mul-tag : goal.overflow_mul-tag
overflow_mul-tag c = omega (arith, read-header c.requires.w_value, c.requires.s_bound.0)

pub overflow_add-tag : goal.overflow_add-tag
overflow_add-tag c = omega (arith, read-header c.requires.w_value, c.requires.s_bound.0)

pub overflow_add-tag-2 : goal.overflow_add-tag-2
overflow_add-tag-2 c = omega (arith, read-header c.requires.w_value, c.requires.s_bound.0)

pub offset_bounds-w-s : goal.offset_bounds-w-s
offset_bounds-w-s c = omega (arith, read-header c.requires.w_value, c.requires.s_bound.0)

pub bounds-w-s : goal.bounds-w-s
bounds-w-s c = omega (arith, read-header c.requires.w_value, c.requires.s_bound.0)

pub returns-then-tag-eq0 : goal.returns-then-tag-eq0
returns-then-tag-eq0 c = let p = c.requires in after-plain _ _ _ p.s_bound.0 p.s_bound.1 p.w_value c.if-tag-eq0.true

pub overflow_add-j : goal.overflow_add-j
overflow_add-j c = let p = c.requires in omega (arith, read-header p.w_value, p.s_bound.0, p.s_bound.1)

pub returns-then-tag-j : goal.returns-then-tag-j
returns-then-tag-j c = let p = c.requires in after-off _ _ _ p.s_bound.0 p.s_bound.1 p.w_value c.if-tag-eq0.false c.if-tag-j.true

pub bounds-w-4 : goal.bounds-w-4
bounds-w-4 c = let p = c.requires in omega (arith, read-header p.w_value, p.s_bound.0)

pub returns-then-w-tag : goal.returns-then-w-tag
returns-then-w-tag c = let p = c.requires in after-few _ _ _ p.s_bound.0 p.s_bound.1 p.w_value c.if-tag-eq0.false c.if-tag-j.false c.if-w-tag.true

pub overflow_mul-root : goal.overflow_mul-root
overflow_mul-root c = let p = c.requires in omega (arith, read-header p.w_value, p.s_bound.0)

pub overflow_add-root : goal.overflow_add-root
overflow_add-root c = let p = c.requires in omega (arith, read-header p.w_value, p.s_bound.0)

pub offset_bounds-w-s-2 : goal.offset_bounds-w-s-2
offset_bounds-w-s-2 c = let p = c.requires in omega (arith, read-header p.w_value, p.s_bound.0)

pub bounds-w-s-2 : goal.bounds-w-s-2
bounds-w-s-2 c = let p = c.requires in omega (arith, read-header p.w_value, p.s_bound.0)

pub bounds-w-2 : goal.bounds-w-2
bounds-w-2 c = let p = c.requires in omega (arith, read-header p.w_value, p.s_bound.0)

pub overflow_cast-w : goal.overflow_cast-w
overflow_cast-w c = let p = c.requires in omega (arith, read-header p.w_value, p.s_bound.0)

pub overflow_mul-w : goal.overflow_mul-w
overflow_mul-w c = let p = c.requires in omega (arith, read-header p.w_value, p.s_bound.0)

pub overflow_add-w : goal.overflow_add-w
overflow_add-w c = let p = c.requires in omega (arith, read-header p.w_value, p.s_bound.0)

pub bounds-w-3 : goal.bounds-w-3
bounds-w-3 c = let p = c.requires in omega (arith, read-header p.w_value, p.s_bound.0)

pub bounds-w-2-2 : goal.bounds-w-2-2
bounds-w-2-2 c = let p = c.requires in omega (arith, read-header p.w_value, p.s_bound.0)

pub bounds-w-3-2 : goal.bounds-w-3-2
bounds-w-3-2 c = let p = c.requires in omega (arith, read-header p.w_value, p.s_bound.0)

pub is_index-requires : goal.is_index-requires
is_index-requires c = let p = c.requires in
    let n = read-header p.w_value in
    record { room = (header-room n, omega (arith, n, c.least_words.ensures, c.if-w-tag.false, c.if-tag-j.false)); rooted = after-rooted _ _ _ p.s_bound.0 p.s_bound.1 p.w_value c.if-tag-eq0.false c.if-tag-j.false }

pub returns-then-not-is_index : goal.returns-then-not-is_index
returns-then-not-is_index c = let p = c.requires in
    after-wrong _ _ _ p.s_bound.0 p.s_bound.1 p.w_value c.if-tag-eq0.false c.if-tag-j.false refl refl c.least_words.ensures c.is_index.ensures c.if-not-is_index.true-raw

pub overflow_add-result : goal.overflow_add-result
overflow_add-result c = let p = c.requires in omega (arith, read-header p.w_value, p.s_bound.0, p.s_bound.1)

pub returns : goal.returns
returns c = let p = c.requires in
    after-right _ _ _ p.s_bound.0 p.s_bound.1 p.w_value c.if-tag-eq0.false c.if-tag-j.false refl refl c.least_words.ensures c.is_index.ensures c.if-not-is_index.false-raw
