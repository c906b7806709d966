-- `leaf` meets its contract: the words behind move to the leaf. Assumes nothing.
use native.Mathlib.Omega.{arith}
use Rattle.nodes.proofs.Segments.{segment-fit}
use Rattle.trie_insert.proofs.Insertion.{room-end, inserted-end}
use Rattle.trie_insert.proofs.leaf.Goals as goal

pub shift-requires : goal.shift-requires
shift-requires c = let h = c.requires in omega (arith, segment-fit h.stands, room-end h, h.stands.end, h.stands.one)

pub store-requires : goal.store-requires
store-requires c = let h = c.requires in omega (arith, segment-fit h.stands, room-end h, h.stands.end, h.stands.one)

pub returns : goal.returns
returns c = inserted-end _ _ _ _ _ _ _ c.shift.ensures c.store.ensures
