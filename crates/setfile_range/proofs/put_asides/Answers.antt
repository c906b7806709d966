-- `put_asides` meets its contract: one behind the other. Assumes nothing.
use Rattle.setfile_range.proofs.Laying.{first-of, second-of, both_of}
use Rattle.setfile_range.proofs.put_asides.Goals as goal

pub put_aside-k-requires : goal.put_aside-k-requires
put_aside-k-requires c = let (f, p, q, d, e, r, s, o, h) = c.requires in (f, p, d, r, o.left, first-of _ _ _ _ _ _ _ h)

pub put_aside-requires : goal.put_aside-requires
put_aside-requires c = let (f, p, q, d, e, r, s, o, h) = c.requires in
    (f, q, e, s, o.right, second-of _ _ _ _ _ _ _ (c.put_aside-k.ensures f p d r o.left) h)

pub returns : goal.returns
returns c f p q d e r s o = both_of _ _ _ _ _ _ _ (c.put_aside-k.ensures f p d r o.left) (c.put_aside.ensures f q e s o.right)
