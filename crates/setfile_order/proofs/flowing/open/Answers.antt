-- `flowing::open` meets its contract. Assumes nothing.
use mathlib.Core.Path.{◌≡◌}
use native.Mathlib.Omega.{arith}
use Rattle.setfile_format.specs.Files.{head_number}
use Rattle.setfile_order.proofs.Opening.{file-long, file-ordered, file-flat}
use Rattle.setfile_order.proofs.flowing.open.Goals as goal

pub number-n-requires : goal.number-n-requires
number-n-requires c = (omega arith, omega (arith, file-long _ _ c.requires.0 c.requires.1))

pub begin-requires : goal.begin-requires
begin-requires c = let a = c.args in
    let n : c.number-n.result ≡ head_number a.bytes.now 1 = c.number-n.ensures in
    rw n (file-ordered a.bytes.now (λ i. omega (arith, c.type_inv.bytes i)) a.family c.requires.0 c.requires.1)

pub returns : goal.returns
returns c l e = let a = c.args in
    let n : c.number-n.result ≡ head_number a.bytes.now 1 = c.number-n.ensures in
    rw (n, file-flat a.bytes.now (λ i. omega (arith, c.type_inv.bytes i)) a.family l e) at c.begin.ensures
