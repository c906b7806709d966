-- `cutting::member` meets its contract. Assumes nothing.
use Rattle.nets.specs.Tries.{leaf}
use Rattle.kept_cut.proofs.Steps.{member-counts, member-gone, member-stays}
use Rattle.kept_cut.proofs.cutting.member.Goals as goal

pub count-c-requires : goal.count-c-requires
count-c-requires c = let (q, p, u, ms, g) = c.requires in (q, p, u, ms, leaf, member-counts g)

pub drop_all-requires : goal.drop_all-requires
drop_all-requires c = let (q, p, u, ms, g) = c.requires in (p, leaf, g.here)

pub returns-then-c-eq0 : goal.returns-then-c-eq0
returns-then-c-eq0 c q p u ms g = let k = c.count-c.ensures q p u ms leaf (member-counts g) in
    (member-gone g _ k.0 c.if-c-eq0.true (c.drop_all.ensures p leaf g.here), k.1)

pub returns : goal.returns
returns c q p u ms g = let k = c.count-c.ensures q p u ms leaf (member-counts g) in
    (member-stays g _ k.0 c.if-c-eq0.false, k.1)
