-- `outlines::network` meets its contract: its eight groups are those of the address. Assumes nothing.
use Rattle.nets.specs.Networks.{big_endian}
use Rattle.text_ipv6_read.specs.Reader.{laid}
use Rattle.text_ipv6_read.specs.Places.{placed, gap_of}
use Rattle.text_ipv6_read.proofs.Laying.{big_endian-same, network-groups}
use Rattle.text_ipv6_read.proofs.outlines.network.Goals as goal

pub returns : goal.returns
returns c = let o = c.args.o in
    let xs = laid (placed o) (gap_of o) in
    network-groups c.groups_to_network.result _ (big_endian 65536 xs 8) c.args.len c.groups_to_network.ensures
    (big_endian-same c.group_at.result c.group_at-2.result c.group_at-3.result c.group_at-4.result c.group_at-5.result c.group_at-6.result c.group_at-7.result c.group_at-8.result xs
    c.group_at.ensures c.group_at-2.ensures c.group_at-3.ensures c.group_at-4.ensures c.group_at-5.ensures c.group_at-6.ensures c.group_at-7.ensures c.group_at-8.ensures)
