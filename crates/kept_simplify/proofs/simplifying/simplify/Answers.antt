-- `simplifying::simplify` meets its contract: what shrink writes, and the node that it left where all joined. Assumes nothing.
use Rattle.kept_simplify.proofs.Shrinking.{whole-none, whole-source, whole-fits, whole-shrunk}
use Rattle.kept_simplify.proofs.simplifying.simplify.Goals as goal

pub returns-then-i-e : goal.returns-then-i-e
returns-then-i-e c p t s e = let g = c.requires in whole-none g.0 g.1 s e c.if-i-e.true

pub shrink-k-requires : goal.shrink-k-requires
shrink-k-requires c = let (room, pos, (p, t, s, e)) = c.requires in
    ((p, t, whole-source room pos s e c.if-i-e.false), c.next_join-next.ensures)

pub settle-requires : goal.settle-requires
settle-requires c = let (room, pos, (p, t, s, e)) = c.requires in
    let ne = c.if-i-e.false in
    let g = whole-fits room pos s e ne (c.shrink-k.ensures p t (whole-source room pos s e ne)) in
    (pos, g.0, g.1, λ _. g.2)

pub returns : goal.returns
returns c p t s e = let g = c.requires in
    let h = c.shrink-k.ensures p t (whole-source g.0 g.1 s e c.if-i-e.false) in
    whole-shrunk g.0 g.1 s e c.if-i-e.false c.net_at-s.ensures h c.settle.ensures
