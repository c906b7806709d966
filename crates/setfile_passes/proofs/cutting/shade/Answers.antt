-- `cutting::shade` meets its contract. Assumes nothing.
use Rattle.trie_pour.specs.Pour.{pour_t}
use Rattle.setfile_passes.proofs.Cuts.{cut-counts, shade-room, shade-done}
use Rattle.setfile_passes.proofs.cutting.shade.Goals as goal

pub count-c-requires : goal.count-c-requires
count-c-requires c = let (q, p, u, ms, t, g) = c.requires in (q, p, u, ms, t, cut-counts g)

pub both-requires : goal.both-requires
both-requires c = tt

pub flat-end-requires : goal.flat-end-requires
flat-end-requires c = let (q, p, u, ms, t, g) = c.requires in
    shade-room g c.both.result (pour_t c.args.into u t) (c.both.ensures t _ g.here.end (c.count-c.ensures q p u ms t (cut-counts g)).0)

pub returns : goal.returns
returns c q p u ms t g = let k = c.count-c.ensures q p u ms t (cut-counts g) in
    (shade-done g c.both.result (pour_t c.args.into u t) (c.both.ensures t _ g.here.end k.0) c.flat-end.ensures, k.1)
