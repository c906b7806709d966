-- `laying::clear` meets its contract: what is filled stands before the rest. Assumes nothing.
use lib.Seq.{length-take-le}
use Rattle.pool_state.proofs.Setups.{zeros-put}
use Rattle.pool.proofs.laying.clear.Goals as goal

pub returns : goal.returns
returns c = let w = c.args.pool.now in
    let e = c.fill.ensures.after (λ y h. h) in
    rw (e, length-take-le c.args.n w c.requires) (zeros-put w c.args.n c.requires)
