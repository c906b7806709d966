-- `put_between` meets its contract. The loop's invariant: the networks of as many bits as are done, and fewer, are laid. Assumes nothing.
use mathlib.Core.List.{[]}
use mathlib.Core.Path.{refl}
use Rattle.trie_paths.specs.Spans.{snoc}
use Rattle.setfile_range.proofs.Laying.{lays-length, shorter, going_start, whole-fits, going_end, going_on, going-both, going-fits, going_next}
use Rattle.setfile_range.proofs.put_between.Goals as goal

pub put_whole-n-requires : goal.put_whole-n-requires
put_whole-n-requires c = whole-fits c.requires.2

pub is_missing-apart-requires : goal.is_missing-apart-requires
is_missing-apart-requires c = tt

pub loop-l-init : goal.loop-l-init
loop-l-init c u P Q h a e = ([], [], P, Q, going_start _ P Q _ _ u h e a)

pub put_asides-n-requires : goal.put_asides-n-requires
put_asides-n-requires c = let (P, Q, h) = c.requires in
    let (p, q, a, b, o) = c.loop-l.invariant c.args.out.now P Q h c.put_whole-n.ensures c.is_missing-apart.ensures in
    let (d, e, r, s, g) = going_on h o c.loop-l-test.true in
    (_, p, q, d, e, r, s, going-both h g, going-fits h g refl)

pub parts-apart-requires : goal.parts-apart-requires
parts-apart-requires c = let (P, Q, h) = c.requires in
    let (p, q, a, b, o) = c.loop-l.invariant c.args.out.now P Q h c.put_whole-n.ensures c.is_missing-apart.ensures in
    let (d, e, r, s, g) = going_on h o c.loop-l-test.true in
    (_, p, q, d, e, r, s, going-both h g)

pub onward-l-requires : goal.onward-l-requires
onward-l-requires c = let (P, Q, h) = c.requires in
    let (p, q, a, b, o) = c.loop-l.invariant c.args.out.now P Q h c.put_whole-n.ensures c.is_missing-apart.ensures in
    let (d, e, r, s, g) = going_on h o c.loop-l-test.true in
    (_, p, d, r, g.left)

pub onward-r-requires : goal.onward-r-requires
onward-r-requires c = let (P, Q, h) = c.requires in
    let (p, q, a, b, o) = c.loop-l.invariant c.args.out.now P Q h c.put_whole-n.ensures c.is_missing-apart.ensures in
    let (d, e, r, s, g) = going_on h o c.loop-l-test.true in
    (_, q, e, s, g.right)

pub loop-l-smaller : goal.loop-l-smaller
loop-l-smaller c = let (P, Q, h) = c.requires in
    let (p, q, a, b, o) = c.loop-l.invariant c.args.out.now P Q h c.put_whole-n.ensures c.is_missing-apart.ensures in
    let (d, e, r, s, g) = going_on h o c.loop-l-test.true in
    shorter g.left (c.onward-l.ensures.1 _ p d r g.left)

pub loop-l-preserved : goal.loop-l-preserved
loop-l-preserved c u P Q h a m = let (p, q, x, y, k) = c.loop-l.invariant u P Q h a m in
    let (d, e, r, s, g) = going_on h k c.loop-l-test.true in
    let b = going-both h g in (
      snoc p d,
      snoc q e,
      r,
      s,
      going_next h g (c.put_asides-n.ensures _ p q d e r s b) (c.parts-apart.ensures _ p q d e r s b)
          (c.onward-l.ensures.0, c.onward-l.ensures.1 _ p d r g.left) (c.onward-r.ensures.0, c.onward-r.ensures.1 _ q e s g.right),
    )

pub shape_of-out : goal.shape_of-out
shape_of-out c = let (P, Q, h) = c.requires in
    let (p, q, r, s, g) = c.loop-l.invariant c.args.out.now P Q h c.put_whole-n.ensures c.is_missing-apart.ensures in
    lays-length g.lays

pub returns : goal.returns
returns c P Q h = let (p, q, r, s, g) = c.loop-l.invariant c.args.out.now P Q h c.put_whole-n.ensures c.is_missing-apart.ensures in
    going_end h g c.loop-l-test.false
