-- `go_on` meets its contract. Assumes nothing.
use native.Mathlib.Omega.{arith}
use Rattle.nets.specs.Tries.{list_of}
use Rattle.trie_spots.proofs.Onward.{gone-on}
use Rattle.kept_spots.proofs.Onward.{place_is, entry_is}
use Rattle.kept_spots.proofs.go_on.Goals as goal

pub overflow_sub-n : goal.overflow_sub-n
overflow_sub-n c = let h = c.requires.stands in omega (arith, h.one, h.end)

pub overflow_cast-n : goal.overflow_cast-n
overflow_cast-n c = let h = c.requires.stands in omega (arith, h.room.few)

pub next_after-x-requires : goal.next_after-x-requires
next_after-x-requires c = let g = c.requires in (entry_is c.args.s g.right c.then_some.ensures, (g.trie, g.stands))

pub returns : goal.returns
returns c t o = gone-on (list_of t) _ _ _ _ (place_is c.args.s c.then_some.ensures) (c.next_after-x.ensures t o) c.arrive.ensures
