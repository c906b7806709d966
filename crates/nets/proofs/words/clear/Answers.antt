-- `words::clear` meets its contract: each word loses its part of the bits past the length. Assumes nothing.
use native.Mathlib.Omega.{arith}
use Rattle.nets.proofs.Numbers.{refusal_of-is}
use Rattle.nets.proofs.TwoWords.{cleared-words}
use Rattle.nets.proofs.words.clear.Goals as goal

pub returns : goal.returns
returns c = let n = c.args.n in
    let e = c.requires in
    rw (c.keep-2.ensures, c.keep.ensures, c.less_by.ensures)
    (cleared-words n c.past-k.result e (omega (arith, (refusal_of-is n e).len)) (omega arith))
