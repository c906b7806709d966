-- `spots::place_in` meets its contract, each return by the tests on the way to it. Assumes nothing.
use borrow.Author.Tests.{not-true, not-false}
use Rattle.trie_spots.proofs.Onward.{place-start, place-of}
use Rattle.trie_spots.proofs.spots.place_in.Goals as goal

pub returns-then-not-s : goal.returns-then-not-s
returns-then-not-s c = place-start _ (not-true _ c.if-not-s.true)

pub returns : goal.returns
returns c = rw c.ok.ensures.value (place-of c.args.s c.requires (not-false _ c.if-not-s.false) _ c.prefix_bits.ensures)
