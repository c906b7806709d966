-- `ipv6::length` meets its contract. Assumes nothing.
use mathlib.Core.Path.{ap}
use native.Mathlib.Omega.{arith}
use lib.ListN.{length}
use Rattle.text_ipv6_write.specs.Ipv6.{text_of}
use Rattle.text_ipv6_write.proofs.Texts.{length-line_as6}
use Rattle.text_ipv6_write.proofs.ipv6.length.Goals as goal

pub returns : goal.returns
returns c = omega (
  arith,
  c.length.ensures.value,
  c.text_length.ensures.value,
  ap (λ g. length (text_of g)) c.of.ensures,
  length-line_as6 c.args.net,
)
