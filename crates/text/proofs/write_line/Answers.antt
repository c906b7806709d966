-- `write_line` meets its contract: its tests are those of `line_refusal`, and what `to_network` grants is the network that came in, cleared, and its report.
-- Assumes nothing.
use native.Mathlib.Omega.{arith}
use lib.ListN.{length}
use Rattle.nets.specs.Networks.{has_bit_past}
use Rattle.nets.specs.declared.Refusal.TheVariants.{WrongFamily, ShortBuffer}
use Rattle.text.specs.Ipv4.{line_of}
use Rattle.nets.proofs.Propagated.{propagated}
use Rattle.text_decimal.proofs.Writing.{length-digits_of}
use Rattle.text.proofs.Writing.{length-line_as}
use Rattle.text.proofs.Answers.{entered-granted, entered-refused, line_refusal-family, line_refusal-entered, line_refusal-short, line_refusal-granted, over-refused, over-line}
use Rattle.text.proofs.write_line.Goals as goal

pub returns-then-net-ne4 : goal.returns-then-net-ne4
returns-then-net-ne4 c = let a = c.args in
    over-refused _ (line_of a.net) (has_bit_past a.net) a.out.now WrongFamily (line_refusal-family a.net (length a.out.now) c.if-net-ne4.true)

pub returns-in_err-n : goal.returns-in_err-n
returns-in_err-n c = let a = c.args in
    let x = c.in_err-n.field-0.0 in
    let e = entered-refused a.net c.in_err-n.was c.to_network.ensures in
    rw (propagated c.from_residual.ensures)
    (over-refused _ (line_of a.net) (has_bit_past a.net) a.out.now x (line_refusal-entered a.net (length a.out.now) x c.if-net-ne4.false e))

pub returns-then-out-length : goal.returns-then-out-length
unfolding line_of
returns-then-out-length c = let a = c.args in
    let g = entered-granted a.net c.in_ok-n.was c.to_network.ensures in
    over-refused _ (line_of a.net) (has_bit_past a.net) a.out.now ShortBuffer
    (line_refusal-short a.net (length a.out.now) c.if-net-ne4.false g.0 (rw (c.length.ensures, g.1) at c.if-out-length.true))

pub overflow_cast-result : goal.overflow_cast-result
overflow_cast-result c = let n = c.in_ok-n.n in omega (arith, length-line_as n, length-digits_of n.len, c.write.ensures.place)

pub returns : goal.returns
unfolding line_of
returns c = let a = c.args in
    let g = entered-granted a.net c.in_ok-n.was c.to_network.ensures in
    let h = rw (c.length.ensures, g.1) at c.if-out-length.false in
    over-line _ (line_of a.net) a.out.now c.write.new.out c.write.result (has_bit_past a.net) c.in_ok-n.trimmed
    (line_refusal-granted a.net (length a.out.now) c.if-net-ne4.false g.0 h) h (rw g.1 at c.write.ensures) g.2
