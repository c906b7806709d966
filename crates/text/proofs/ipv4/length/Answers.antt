-- `ipv4::length` meets its contract. Assumes nothing.
use native.Mathlib.Omega.{arith}
use Rattle.text.proofs.Writing.{lengths}
use Rattle.text.proofs.ipv4.length.Goals as goal

pub returns : goal.returns
returns c = omega (arith, (lengths c.args.net).line)
