-- `bytes_to_network` meets its contract: the number of sixteen bytes is that of eight groups. Assumes nothing.
use Rattle.addresses.proofs.Words.{big_endian-bytes}
use Rattle.addresses.proofs.bytes_to_network.Goals as goal

pub returns : goal.returns
returns c = cc (big_endian-bytes c.args.a)
