-- `records::put_reply` meets its contract: the network stands behind the head. Assumes nothing.
use Prim.Native.Nat.{◌+◌}
use Rattle.calls_bytes.specs.Records.{head_bytes, net_bytes, reply_bytes}
use Rattle.calls_bytes.proofs.Written.{behind, length-head}
use native.Mathlib.Omega.{arith}
use Rattle.calls_bytes.proofs.records.put_reply.Goals as goal

pub returns : goal.returns
unfolding reply_bytes
returns c = let s = c.args in
    behind s.out.now s.at (s.at + 10) (head_bytes s.r) (net_bytes s.r.net) c.put_head.ensures c.put_net.ensures (omega (arith, length-head s.r))
