-- `spots::go_on` meets its contract. Assumes nothing.
use Rattle.nets.specs.Tries.{list_of}
use Rattle.trie_spots.proofs.Onward.{gone-on}
use Rattle.trie_spots.proofs.spots.go_on.Goals as goal

pub place_in-place-requires : goal.place_in-place-requires
place_in-place-requires c = c.requires.right

pub next_after-x-requires : goal.next_after-x-requires
next_after-x-requires c = let g = c.requires in
    record { place_bound = c.place_in-place.ensures.1; holds = (g.trie, g.stands) }

pub returns : goal.returns
returns c t o = gone-on (list_of t) _ _ _ _ c.place_in-place.ensures.0 (c.next_after-x.ensures t o) c.arrive.ensures
