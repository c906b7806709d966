-- `printing::print_set` is safe and ends: the rows that `list` says that it wrote lie within those lent. Assumes nothing.
use native.Mathlib.Omega.{arith}
use Rattle.tool_print.proofs.Fits.{listed-fits}
use Rattle.tool_print.proofs.printing.print_set.Goals as goal

pub networks-requires : goal.networks-requires
networks-requires g c = let l = c.list-listed in omega (arith, listed-fits l.ensures c.in-Ok.is, l.auto.rows)
