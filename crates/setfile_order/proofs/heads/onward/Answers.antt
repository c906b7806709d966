-- `heads::onward` meets its contract. Assumes nothing.
use mathlib.Core.Path.{◌≡◌, refl, ap}
use Prim.Native.Nat.{◌+◌}
use native.Mathlib.Omega.{arith}
use Rattle.nets.specs.declared.Net.{Net}
use Rattle.setfile_format.specs.Files.{entry_net}
use Rattle.setfile_format.proofs.Written.{file_bytes-mono}
use Rattle.setfile_order.proofs.heads.onward.Goals as goal

pub entry-e-requires : goal.entry-e-requires
entry-e-requires c = let a = c.args in
    (omega arith, omega (arith, file_bytes-mono a.family {i = a.x.next + 1 + 1} {n = a.x.end} (omega arith)))

pub returns : goal.returns
returns c = let a = c.args in
    let e : c.entry-e.result ≡ entry_net a.family a.bytes.now (a.x.next + 1) = c.entry-e.ensures.value in
    record { next = refl; end = refl; len = refl; hi = λ _. ap (λ (n : Net). n.hi) e; lo = λ _. ap (λ (n : Net). n.lo) e }
