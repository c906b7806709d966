-- `rules::cut` meets its contract: what `accept` grants is cleared, and what it refuses is refused. Assumes nothing.
use mathlib.Core.Path.{◌≡◌}
use Rattle.nets.specs.Networks.{refusal_of, no_net, cleared}
use Rattle.nets.proofs.Answers.{judged-network, judged-refused}
use Rattle.nets.proofs.Propagated.{propagated}
use Rattle.nets.proofs.rules.cut.Goals as goal
use Rattle.nets.proofs.rules.cut.Goals.{In_ok-n, After-clear}

granted : (c : In_ok-n) → let n = c.args.n in (refusal_of n ≡ 0) × (c.in_ok-n.n ≡ n)
granted c = judged-network c.accept.result c.args.n c.in_ok-n.n c.accept.ensures c.in_ok-n.was

granted-clear : (c : After-clear) → let n = c.args.n in (refusal_of n ≡ 0) × (c.in_ok-n.n ≡ n)
granted-clear c = judged-network c.accept.result c.args.n c.in_ok-n.n c.accept.ensures c.in_ok-n.was

pub clear-requires : goal.clear-requires
clear-requires c = rw (granted c).1 (granted c).0

pub returns : goal.returns
returns c = rw (c.clear.ensures, (granted-clear c).1, (granted-clear c).0)

pub returns-in_err-n : goal.returns-in_err-n
returns-in_err-n c = rw (propagated c.from_residual.ensures) (let n = c.args.n in
    judged-refused c.accept.result n c.in_err-n.field-0.0 no_net (cleared n) c.accept.ensures c.in_err-n.was)
