-- `Net::prefix_bits` meets its contract: what `accept` grants is started on, and what it refuses is refused. Assumes nothing.
use Rattle.nets.specs.Networks.{no_bits, start_of}
use Rattle.nets.proofs.Answers.{judged-network, judged-refused}
use Rattle.nets.proofs.Propagated.{propagated}
use Rattle.nets.proofs.Net.prefix_bits.Goals as goal

pub returns : goal.returns
returns c = let h = judged-network c.accept.result c.args.self c.in_ok-n.n c.accept.ensures c.in_ok-n.was in
    rw (c.start.ensures, h.1, h.0)

pub returns-in_err-n : goal.returns-in_err-n
returns-in_err-n c = rw (propagated c.from_residual.ensures) (let n = c.args.self in
    judged-refused c.accept.result n c.in_err-n.field-0.0 no_bits (start_of n) c.accept.ensures c.in_err-n.was)
