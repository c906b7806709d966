-- `reading::short_net` meets its contract. Assumes nothing.
use Prim.Native.Nat.{◌+◌}
use native.Mathlib.Omega.{arith}
use mathlib.Core.Path.{refl}
use Rattle.kept_reading.proofs.Found.{found-short}
use Rattle.kept_reading.proofs.reading.short_net.Goals as goal

pub returns : goal.returns
returns c = found-short _ _ c.requires.1 (c.from.ensures, omega (arith, c.from.ensures, c.type_inv.w (c.args.p + 1))) refl
