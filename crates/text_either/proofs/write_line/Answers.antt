-- `write_line` meets its contract: its tests are those of `either_refusal`, and what `to_network` grants is the network that came in, cleared, and its report.
-- Assumes nothing.
use native.Mathlib.Omega.{arith}
use lib.ListN.{length}
use mathlib.Core.Path.{sym}
use Rattle.nets.proofs.Answers.{number-some}
use Rattle.nets.proofs.Propagated.{propagated}
use Rattle.nets.specs.Networks.{has_bit_past}
use Rattle.nets.specs.Refusals.{number}
use Rattle.nets.specs.declared.Refusal.TheVariants.{ShortBuffer}
use Rattle.text.proofs.Answers.{entered-granted, entered-refused, over-refused, over-line}
use Rattle.text_either.specs.Either.{line_either}
use Rattle.text_either.proofs.RoundTrip.{either_refusal-refused, either_refusal-short, either_refusal-granted, length-line_either}
use Rattle.text_either.proofs.write_line.Goals as goal

pub returns-in_err-n : goal.returns-in_err-n
returns-in_err-n c = let a = c.args in
    let x = c.in_err-n.field-0.0 in
    let e = entered-refused a.net c.in_err-n.was c.to_network.ensures in
    rw (propagated c.from_residual.ensures)
    (over-refused _ (line_either a.net) (has_bit_past a.net) a.out.now x (either_refusal-refused a.net (length a.out.now) (number x) (sym e) (number-some x)))

pub returns-then-out-length : goal.returns-then-out-length
unfolding line_either
returns-then-out-length c = let a = c.args in
    let g = entered-granted a.net c.in_ok-n.was c.to_network.ensures in
    over-refused _ (line_either a.net) (has_bit_past a.net) a.out.now ShortBuffer
    (either_refusal-short a.net (length a.out.now) g.0 (rw (c.length.ensures, g.1) at c.if-out-length.true))

pub overflow_cast-result : goal.overflow_cast-result
unfolding line_either
overflow_cast-result c = let g = entered-granted c.args.net c.in_ok-n.was c.to_network.ensures in
    let l = length-line_either c.args.net g.0 in
    omega (arith, rw (← g.1) at l, c.write.ensures.place)

pub returns : goal.returns
unfolding line_either
returns c = let a = c.args in
    let g = entered-granted a.net c.in_ok-n.was c.to_network.ensures in
    let h = rw (c.length.ensures, g.1) at c.if-out-length.false in
    over-line _ (line_either a.net) a.out.now c.write.new.out c.write.result (has_bit_past a.net) c.in_ok-n.trimmed
    (either_refusal-granted a.net (length a.out.now) g.0 h) h (rw g.1 at c.write.ensures) g.2
