-- `Net::to_network` meets its contract: of what is cut, whether a bit past the length was set is reported, and of a refusal nothing. Assumes nothing.
use Rattle.nets.specs.Networks.{refusal_of, no_entry, cleared, has_bit_past}
use Rattle.nets.proofs.Answers.{taken-network, taken_refused}
use Rattle.nets.proofs.Propagated.{propagated}
use Rattle.nets.proofs.Net.to_network.Goals as goal

pub returns : goal.returns
returns c = let n = c.args.self in
    let h = taken-network c.cut.result (refusal_of n) (cleared n) c.in_ok-n.n c.cut.ensures c.in_ok-n.was in
    rw (c.has_bit_past.ensures, h.1, h.0)

pub returns-in_err-n : goal.returns-in_err-n
returns-in_err-n c = rw (propagated c.from_residual.ensures) (let n = c.args.self in
    taken_refused c.cut.result (refusal_of n) (cleared n) c.in_err-n.field-0.0 no_entry (cleared n, has_bit_past n) c.cut.ensures c.in_err-n.was)
