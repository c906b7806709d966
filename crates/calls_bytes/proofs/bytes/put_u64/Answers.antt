-- `bytes::put_u64` meets its contract: the second half stands behind the first. Assumes nothing.
use mathlib.Core.Path.{refl}
use Prim.Native.Nat.{◌+◌, ◌/◌, ◌%◌}
use Rattle.calls_bytes.specs.Bytes.{u16_bytes, u32_bytes, u64_bytes}
use Rattle.calls_bytes.proofs.Written.{behind}
use Rattle.calls_bytes.proofs.bytes.put_u64.Goals as goal

pub returns : goal.returns
unfolding u16_bytes u32_bytes u64_bytes
returns c = let s = c.args in
    behind s.out.now s.at (s.at + 4) (u32_bytes (s.x % 4294967296)) (u32_bytes (s.x / 4294967296)) c.put_u32.ensures c.put_u32-2.ensures refl
