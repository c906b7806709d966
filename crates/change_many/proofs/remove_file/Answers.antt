-- `remove_file` meets its contract. Assumes nothing.
use mathlib.Core.Bool.{false}
use Rattle.change_many.proofs.Poured.{admits-without, file-asked, file-pourable}
use Rattle.nets.proofs.Propagated.{propagated}
use Rattle.change_many.proofs.remove_file.Goals as goal

pub pour_found-requires : goal.pour_found-requires
pour_found-requires c = (_, _, file-pourable false (file-asked c.ask_file.ensures c.in_ok-found.was), λ S e. admits-without _ S _ e _)

pub returns-in_err-found : goal.returns-in_err-found
returns-in_err-found c = rw (propagated c.from_residual.ensures) ((rw c.in_err-found.was at c.ask_file.ensures) _)

pub returns : goal.returns
returns c = c.pour_found.ensures _ _ (file-pourable false (file-asked c.ask_file.ensures c.in_ok-found.was)) (λ S e. admits-without _ S _ e _)
