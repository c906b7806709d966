-- `set_end` meets its contract: the root is none, or elsewhere, or where the list is read, by the pool's form. Assumes nothing.
use mathlib.Core.Path.{◌∙◌}
use native.Mathlib.Omega.{arith}
use borrow.Author.Rules.{rules}
use Rattle.pool_state.proofs.Kept.{room-first, room-second}
use Rattle.pool_sets.proofs.Pass.{levels-few, room-family, read_set-none, read_set-off, read_set-first, read_set-second}
use Rattle.pool_sets.proofs.set_end.Goals as goal

pub returns-then-root-eq0 : goal.returns-then-root-eq0
returns-then-root-eq0 c = read_set-none _ _ _ _ _ c.if-root-eq0.true

pub returns-then-root-i : goal.returns-then-root-i
returns-then-root-i c = read_set-off _ _ _ _ _ c.if-root-eq0.false c.if-root-i.true

pub trie_end-requires : goal.trie_end-requires
trie_end-requires c = let p = c.requires.room_l in
    record { room = room-first p.0; le_root = (p.1, levels-few p.0 c.most_levels.ensures) }

pub returns-then-w-eq0 : goal.returns-then-w-eq0
returns-then-w-eq0 c = read_set-first _ _ _ _ _ c.if-root-eq0.false c.if-root-i.false c.if-w-eq0.true c.most_levels.ensures c.trie_end.ensures

pub overflow_cast-w : goal.overflow_cast-w
overflow_cast-w c = omega (arith, room-family c.requires.room_l.0)

pub kept_end-requires : goal.kept_end-requires
kept_end-requires c = let p = c.requires.room_l in (room-second p.0, p.1)

pub returns : goal.returns
returns c = read_set-second _ _ _ _ _ c.if-root-eq0.false c.if-root-i.false c.if-w-eq0.false c.kept_end.ensures
