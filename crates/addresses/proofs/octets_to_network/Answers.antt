-- `octets_to_network` meets its contract: the number of four bytes is one word. Assumes nothing.
use native.Mathlib.Omega.{arith}
use Rattle.nets.proofs.TwoWords.{net_of-value}
use Rattle.addresses.proofs.Words.{big_endian-octets}
use Rattle.addresses.proofs.octets_to_network.Goals as goal

pub returns : goal.returns
returns c = cc (big_endian-octets c.args.a, net_of-value 4 0 c.word-lo.result 32 (omega arith))
