-- `bytes::put_u16` meets its contract: the second half stands behind the first. Assumes nothing.
use mathlib.Core.List.{[], ◌∷◌}
use mathlib.Core.Path.{refl}
use Prim.Native.Nat.{◌+◌, ◌/◌, ◌%◌}
use Rattle.calls_bytes.specs.Bytes.{u16_bytes}
use Rattle.calls_bytes.proofs.Written.{behind}
use Rattle.calls_bytes.proofs.bytes.put_u16.Goals as goal

pub returns : goal.returns
unfolding u16_bytes
returns c = let s = c.args in
    behind s.out.now s.at (s.at + 1) (s.x % 256 ∷ []) (s.x / 256 ∷ []) c.put_u8.ensures c.put_u8-2.ensures refl
