-- `records::put_net` meets its contract: each part stands behind the one before it. Assumes nothing.
use mathlib.Core.List.{[], ◌∷◌, ◌++◌}
use mathlib.Core.Path.{refl}
use Prim.Native.Nat.{◌+◌}
use Rattle.calls_bytes.specs.Bytes.{u64_bytes}
use Rattle.calls_bytes.specs.Records.{net_bytes}
use Rattle.calls_bytes.proofs.Written.{behind, length-u64}
use native.Mathlib.Omega.{arith}
use Rattle.calls_bytes.proofs.records.put_net.Goals as goal

pub returns : goal.returns
unfolding net_bytes
returns c = let s = c.args in
    let p = s.at in
    let n = s.net in
    let e = behind c.put_u64.new.out (p + 9) (p + 17) (u64_bytes n.lo) (n.len ∷ []) c.put_u64-2.ensures c.put_u8-2.ensures (omega (arith, length-u64 n.lo)) in
    let g = behind c.put_u8.new.out (p + 1) (p + 9) (u64_bytes n.hi) (u64_bytes n.lo ++ (n.len ∷ [])) c.put_u64.ensures e (omega (arith, length-u64 n.hi)) in
    behind s.out.now p (p + 1) (n.family ∷ []) (u64_bytes n.hi ++ (u64_bytes n.lo ++ (n.len ∷ []))) c.put_u8.ensures g refl
