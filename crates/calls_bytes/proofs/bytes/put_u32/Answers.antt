-- `bytes::put_u32` meets its contract: the second half stands behind the first. Assumes nothing.
use mathlib.Core.Path.{refl}
use Prim.Native.Nat.{◌+◌, ◌/◌, ◌%◌}
use Rattle.calls_bytes.specs.Bytes.{u16_bytes, u32_bytes}
use Rattle.calls_bytes.proofs.Written.{behind}
use Rattle.calls_bytes.proofs.bytes.put_u32.Goals as goal

pub returns : goal.returns
unfolding u16_bytes u32_bytes
returns c = let s = c.args in
    behind s.out.now s.at (s.at + 2) (u16_bytes (s.x % 65536)) (u16_bytes (s.x / 65536)) c.put_u16.ensures c.put_u16-2.ensures refl
