-- `standing::is_clear` meets its contract: the number of a node means the trie that stands there. Assumes nothing.
use Rattle.kept_meets.proofs.Inside.{stands-means}
use Rattle.kept_meets.proofs.standing.is_clear.Goals as goal

pub is_public-requires : goal.is_public-requires
is_public-requires c = let p = c.requires in let (t, s, z) = p.kept_stands in (p.kept_room.0, (0, 0, t, stands-means t p.kept_room.1 s z))

pub returns : goal.returns
returns c t s z = let p = c.requires in c.is_public.ensures 0 0 t (stands-means t p.kept_room.1 s z)
