-- `Net::with_new_prefix` meets its contract: what `accept` grants is cleared at the new length, and what it refuses is refused. Assumes nothing.
use mathlib.Core.Path.{ap, ◌∙◌}
use Rattle.nets.specs.Networks.{no_net, cleared, with_len}
use Rattle.nets.proofs.Answers.{judged-network, judged-refused, number-some, with_len_no-net, with_len_no-none}
use Rattle.nets.proofs.Propagated.{propagated}
use Rattle.nets.proofs.Net.with_new_prefix.Goals as goal

pub returns : goal.returns
returns c = let a = c.args in
    let h = judged-network c.accept.result a.self c.in_ok-n.n c.accept.ensures c.in_ok-n.was in
    rw (with_len_no-net a.self a.len h.0) (rw h.1 at c.cut.ensures)

pub returns-in_err-n : goal.returns-in_err-n
returns-in_err-n c = rw (propagated c.from_residual.ensures) (let a = c.args in
    let e = judged-refused c.accept.result a.self c.in_err-n.field-0.0 no_net (cleared (with_len a.self a.len)) c.accept.ensures c.in_err-n.was in
    rw (with_len_no-none a.self a.len (λ q. number-some c.in_err-n.field-0.0 (ap (λ p. p.0) e ∙ q))) e)
