-- `seated::is_first` meets its contract. Assumes nothing.
use lib.ListN.{get_or}
use borrow.Author.Rules.{rules}
use Rattle.listing.proofs.ByForm.{first-few, first_said}
use Rattle.listing.proofs.seated.is_first.Goals as goal

pub returns-then-pool-le5 : goal.returns-then-pool-le5
returns-then-pool-le5 c = first-few c.args.pool.now c.if-pool-le5.true

pub returns : goal.returns
returns c = first_said (get_or c.args.pool.now 5 0)
