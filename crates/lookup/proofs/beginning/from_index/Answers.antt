-- `beginning::from_index` meets its contract. Assumes nothing.
use mathlib.Core.Path.{◌∙◌}
use Prim.Native.Nat.{◌-◌}
use native.Mathlib.Omega.{arith}
use borrow.Author.Rules.{rules}
use Rattle.nets.specs.Networks.{bits_left}
use Rattle.pool_state.proofs.Header.{is_header-header}
use Rattle.lookup.proofs.Beginnings.{ground-room, index_word}
use Rattle.lookup.proofs.beginning.from_index.Goals as goal

pub grounds-g-requires : goal.grounds-g-requires
grounds-g-requires c = let p = c.requires in (p.0, p.1)

pub head-h-requires : goal.head-h-requires
head-h-requires c = let p = c.requires in (p.2, p.3)

pub bounds-w-2 : goal.bounds-w-2
bounds-w-2 c = let p = c.requires in omega (arith, is_header-header _ p.0, p)

pub overflow_sub-tag : goal.overflow_sub-tag
overflow_sub-tag c = let p = c.requires in omega (arith, is_header-header _ p.0, p)

pub overflow_add-at : goal.overflow_add-at
overflow_add-at c = omega (arith, is_header-header _ c.requires.0, c.requires, c.least_words.ensures, c.grounds-g.ensures.1, c.head-h.ensures.1)

pub offset_bounds-w-at : goal.offset_bounds-w-at
offset_bounds-w-at c = omega (arith, is_header-header _ c.requires.0, c.requires, c.least_words.ensures, c.grounds-g.ensures.1, c.head-h.ensures.1)

pub bounds-w-at : goal.bounds-w-at
bounds-w-at c = omega (arith, is_header-header _ c.requires.0, c.requires, c.least_words.ensures, c.grounds-g.ensures.1, c.head-h.ensures.1)

pub stand_on-requires : goal.stand_on-requires
stand_on-requires c = (ground-room _ _ c.grounds-g.ensures c.requires.0, c.head-h.ensures.2, c.requires.3)

pub returns : goal.returns
returns c = let a = c.args in
    c.stand_on.ensures
    ∙ index_word _ _ c.grounds-g.ensures (a.tag - 1) (bits_left a.bits) c.least_words.ensures c.head-h.ensures.0 c.head-h.ensures.3
