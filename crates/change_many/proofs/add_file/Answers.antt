-- `add_file` meets its contract. Assumes nothing.
use mathlib.Core.Bool.{true}
use Rattle.change_many.proofs.Poured.{file-asked, file-pourable}
use Rattle.nets.proofs.Propagated.{propagated}
use Rattle.change_many.proofs.add_file.Goals as goal

pub pour_into-requires : goal.pour_into-requires
pour_into-requires c = (_, _, file-pourable true (file-asked c.ask_file.ensures c.in_ok-found.was))

pub returns-in_err-found : goal.returns-in_err-found
returns-in_err-found c = rw (propagated c.from_residual.ensures) ((rw c.in_err-found.was at c.ask_file.ensures) _)

pub returns : goal.returns
returns c = c.pour_into.ensures _ _ (file-pourable true (file-asked c.ask_file.ensures c.in_ok-found.was))
