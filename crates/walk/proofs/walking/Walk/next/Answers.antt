-- `Walk::next`: a walk that was made can go on, and comes to the next spot.
use Rattle.std.proofs.Common.{ap}
use Rattle.trie_spots.specs.declared.spots.Spot.{Spot}
use Rattle.walk.proofs.Steps.{goes, stepped}
use Rattle.walk.proofs.walking.Walk.next.Goals as goal

pub go_on-s-requires : goal.go_on-s-requires
go_on-s-requires c = goes c.args.self.now c.requires

pub returns : goal.returns
returns c =
    let w = c.args.self.now in
    let e = stepped w c.requires c.go_on-s.result c.go_on-s.ensures in
    (ap (λ (s : Spot). s.more) e, λ i. record { pool = w.pool; spot = e i; set = w.set; no = w.no })
