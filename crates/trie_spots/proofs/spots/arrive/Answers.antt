-- `spots::arrive` meets its contract, each return by the tests on the way to it. Assumes nothing.
use Rattle.trie_spots.proofs.Onward.{arrive-network, arrive-end}
use Rattle.trie_spots.proofs.spots.arrive.Goals as goal

pub returns-in-Some : goal.returns-in-Some
returns-in-Some c = arrive-network c.args.s _ _ c.in-Some.is

pub returns-in-None : goal.returns-in-None
returns-in-None c = arrive-end c.args.s _ c.in-None.is
