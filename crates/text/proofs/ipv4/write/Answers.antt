-- `ipv4::write` meets its contract: each call stores behind the one before it, and what they store makes the line. Assumes nothing.
use native.Mathlib.Omega.{arith}
use Rattle.text_decimal.proofs.Writing.{stored-append}
use Rattle.text.proofs.Writing.{stored-line, lengths}
use Rattle.text.proofs.ipv4.write.Goals as goal

pub put-a-requires : goal.put-a-requires
put-a-requires c = omega (arith, lengths c.args.net)

pub put-b-requires : goal.put-b-requires
put-b-requires c = omega (arith, lengths c.args.net)

pub put-c-requires : goal.put-c-requires
put-c-requires c = omega (arith, lengths c.args.net)

pub put-d-requires : goal.put-d-requires
put-d-requires c = omega (arith, lengths c.args.net)

pub put-requires : goal.put-requires
put-requires c = omega (arith, lengths c.args.net)

pub returns : goal.returns
returns c = stored-line c.args.net
    (stored-append c.put-a.ensures (stored-append c.put-b.ensures (stored-append c.put-c.ensures (stored-append c.put-d.ensures c.put.ensures))))
