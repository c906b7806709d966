-- `groups_to_network` meets its contract: the number of eight groups is that of two words of four. Assumes nothing.
use native.Mathlib.Omega.{arith}
use Rattle.nets.proofs.TwoWords.{net_of-value}
use Rattle.addresses.proofs.Words.{big_endian-groups}
use Rattle.addresses.proofs.groups_to_network.Goals as goal

pub returns : goal.returns
returns c = cc (big_endian-groups c.args.a, net_of-value 6 c.word-hi.result c.word-lo.result 128 (omega arith))
