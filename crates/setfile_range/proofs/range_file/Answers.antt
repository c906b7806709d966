-- `range_file` meets its contract: the entries, then the header in front of them. Assumes nothing.
use mathlib.Core.Path.{◌∙◌}
use native.Mathlib.Omega.{arith}
use Rattle.setfile_range.proofs.Files.{range-edges, range-few, range_size, range-written}
use Rattle.setfile_range.proofs.Laying.{lays-length}
use Rattle.setfile_range.proofs.range_file.Goals as goal

pub left_edge-x-requires : goal.left_edge-x-requires
left_edge-x-requires c = let h = c.requires in (h.family, omega (arith, h.order, h.high))

pub put_between-n-requires : goal.put_between-n-requires
put_between-n-requires c = (_, _, range-edges c.requires c.left_edge-x.ensures c.right_edge-y.ensures)

pub put_header-requires : goal.put_header-requires
put_header-requires c = let h = c.requires in
    let laid = c.put_between-n.ensures _ _ (range-edges c.requires c.left_edge-x.ensures c.right_edge-y.ensures) in
    (omega (arith, range-few h c.left_edge-x.ensures c.right_edge-y.ensures laid), omega (arith, lays-length laid, h.room))

pub file_bytes-requires : goal.file_bytes-requires
file_bytes-requires c =
    let laid = c.put_between-n.ensures _ _ (range-edges c.requires c.left_edge-x.ensures c.right_edge-y.ensures) in
    omega (arith, range-few c.requires c.left_edge-x.ensures c.right_edge-y.ensures laid)

pub returns : goal.returns
returns c = let h = c.requires in
    let l = c.left_edge-x.ensures in
    let r = c.right_edge-y.ensures in
    let laid = c.put_between-n.ensures _ _ (range-edges h l r) in
    (c.file_bytes.ensures ∙ range_size h l r laid, range-written h l r laid c.put_header.ensures)
