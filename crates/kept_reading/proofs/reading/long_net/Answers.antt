-- `reading::long_net` meets its contract. Assumes nothing.
use Prim.Native.Nat.{ℕ, ◌<◌, ◌^◌}
use native.Mathlib.Omega.{arith}
use lib.ListN.{get_or}
use mathlib.Core.Path.{refl}
use Rattle.kept_reading.proofs.Found.{found-long}
use Rattle.kept_reading.proofs.reading.long_net.Goals as goal

pub returns : goal.returns
returns c = let w = c.args.w.now in
    let few : (k : ℕ) → get_or w k 0 < 2 ^ 32 = λ k. omega (arith, c.type_inv.w k) in
    found-long {w = w} {p = c.args.p} _ _ _ _ _ _ _ c.requires.1 (refl, few _) (refl, few _) (refl, few _) (refl, few _) c.pair.ensures c.pair-2.ensures refl
