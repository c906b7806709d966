-- `records::put_head` meets its contract: each part stands behind the one before it. Assumes nothing.
use mathlib.Core.List.{[], ◌∷◌, ◌++◌}
use mathlib.Core.Bool.{cond}
use mathlib.Core.Path.{refl}
use Prim.Native.Nat.{◌+◌}
use Rattle.calls_bytes.specs.Bytes.{u32_bytes}
use Rattle.calls_bytes.specs.Records.{head_bytes}
use Rattle.calls_bytes.proofs.Written.{behind, length-u32}
use native.Mathlib.Omega.{arith}
use Rattle.calls_bytes.proofs.records.put_head.Goals as goal

pub returns : goal.returns
unfolding head_bytes
returns c = let s = c.args in
    let p = s.at in
    let r = s.r in
    let e = behind c.put_u8-2.new.out (p + 2) (p + 6) (u32_bytes r.x) (u32_bytes r.y) c.put_u32.ensures c.put_u32-2.ensures (omega (arith, length-u32 r.x)) in
    let g = behind c.put_u8.new.out (p + 1) (p + 2) (cond r.flag 1 0 ∷ []) (u32_bytes r.x ++ u32_bytes r.y) (rw c.flag_byte.ensures at c.put_u8-2.ensures) e (omega arith) in
    behind s.out.now p (p + 1) (r.no ∷ []) (cond r.flag 1 0 ∷ (u32_bytes r.x ++ u32_bytes r.y)) c.put_u8.ensures g refl
